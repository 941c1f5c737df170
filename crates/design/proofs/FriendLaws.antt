-- The friends of a design's model are document 01's, in order, and its states are the configurations without a stranger. Assumes nothing.
use mathlib.Core.Path.{◌≡◌, refl, sym, ◌∙◌, subst}
use mathlib.Core.Logic.{◌⊎◌, inl, inr, ◌↔◌}
use mathlib.Core.Bool.{Bool, true, false, not, cond, ◌&&◌, ◌||◌}
use mathlib.Core.List.Memᴰ
use mathlib.Core.List.{List, [], Memᴰ}
use Prim.Native.Nat.{ℕ, ◌<◌, ◌≤◌}
use native.Mathlib.Decide.{dec_lt}
use native.Mathlib.Nat.{not-suc-le-zero}
use native.Mathlib.Omega.{arith}
use lib.Dec.{eqb, ltb}
use lib.ListN.{length, get_or, get_or-eq_default}
use lib.Ieee.{ne}
use borrow.Author.Tests.{eqb-true, ltb-true, lt-ltb, eq-eqb, not-false}
use Rattle.doubles.specs.Decimal.{zero}
use Rattle.lists.specs.Build.{tabulate, up_to}
use Rattle.lists.specs.Find.{any}
use Rattle.lists.specs.Order.{Rising}
use Rattle.lists.proofs.Build.{length-tabulate, get_or-tabulate}
use Rattle.lists.proofs.Tests.{neither, clash}
use Rattle.lists.proofs.Any.{none_below, all-below}
use Rattle.lists.proofs.Keep.{kept, kept-below, kept-passes, kept-rise}
use Rattle.model.specs.Model.{Friend, State, friends_at}
use Rattle.design.specs.Design.{Design, positions, strands, blocked, scaffold_glue, west, bottom, east, cell, binding, befriends, friends_to, is_friend, friends_of, model_of}
use Rattle.design.specs.Checks.{Admitted, TablesPass, null_glued, null_cells, null_binds, no_friend, no_friend_at, not_all_friends}
use Rattle.design.specs.Laws.{Bound, FriendsRight}
use Rattle.design.proofs.Sizes.{sized}

either : (a b : Bool) → (a || b) ≡ true → (a ≡ true) ⊎ (b ≡ true)
either true b e = inl refl
either false b e = inr e

one_of : (a b : Bool) → (a ≡ true) ⊎ (b ≡ true) → (a || b) ≡ true
one_of true b h = refl
one_of false b (inl e) = absurd (let z : ◌≡◌ {A = ℕ} 0 1 = cc in omega arith)
one_of false b (inr e) = e

-- an open position whose glue binds
pub open-and : (b t : Bool) → (not b && t) ≡ true → (b ≡ false) × (t ≡ true)
open-and true t e = absurd (let z : ◌≡◌ {A = ℕ} 0 1 = cc in omega arith)
open-and false t e = (refl, e)

and-open : (b t : Bool) → b ≡ false → t ≡ true → (not b && t) ≡ true
and-open b t e f = rw (e, f)

-- and none that does not bind
not-bound : (b t : Bool) → t ≡ false → (not b && t) ≡ false
not-bound true t e = refl
not-bound false t e = e

module _ (d : Design) where
  friends-at : (i : ℕ) → i < positions d → friends_at (model_of d) i ≡ friends_of d i
  unfolding model_of
  friends-at i h = get_or-tabulate (positions d) (friends_of d) [] i h

  friends-past : (i : ℕ) → positions d ≤ i → friends_at (model_of d) i ≡ []
  unfolding model_of
  friends-past i h =
      let l : length (tabulate (positions d) (friends_of d)) ≤ i = rw (length-tabulate (positions d) (friends_of d)) h in
      get_or-eq_default (tabulate (positions d) (friends_of d)) [] l

  -- a friend at a position is one of the strands that the test keeps there
  friend-kept : (i x : ℕ) → Friend (model_of d) i x → (i < positions d) × Memᴰ x (friends_of d i)
  friend-kept i x f = go (dec_lt i (positions d))
    where
      go : Dec (i < positions d) → (i < positions d) × Memᴰ x (friends_of d i)
      go (yes h) = (h, subst (λ (l : List ℕ). Memᴰ x l) (friends-at i h) f)
      go (no h) = absurd (Memᴰ.not-nil (subst (λ (l : List ℕ). Memᴰ x l) (friends-past i (omega arith)) f))

  -- that its glue binds
  abbrev binds_at : ℕ → ℕ → Bool
  binds_at i = befriends (scaffold_glue d i) d.glues d.dg d.ds

  -- the friends of a position that is blocked or not
  abbrev listed_at : Bool → ℕ → List ℕ
  listed_at blocked i = cond blocked [] (friends_to (scaffold_glue d i) d.glues d.dg d.ds (strands d))

  listed-tested : (b : Bool) (i x : ℕ) → Memᴰ x (listed_at b i) → (x < strands d) × ((not b && binds_at i x) ≡ true)
  unfolding friends_to
  listed-tested true i x m = absurd (Memᴰ.not-nil m)
  listed-tested false i x m = (kept-below (binds_at i) (strands d) m, kept-passes (binds_at i) (strands d) m)

  tested-listed : (b : Bool) (i x : ℕ) → x < strands d → (not b && binds_at i x) ≡ true → Memᴰ x (listed_at b i)
  unfolding friends_to
  tested-listed true i x k e = absurd (let z : ◌≡◌ {A = ℕ} 0 1 = cc in omega arith)
  tested-listed false i x k e = kept (binds_at i) (strands d) x k e

  pub friend-tested : (i x : ℕ) → Friend (model_of d) i x → (i < positions d) × (x < strands d) × (is_friend d i x ≡ true)
  friend-tested i x f = let w = friend-kept i x f in let l = listed-tested (blocked d i) i x w.1 in (w.0, l.0, l.1)

  pub tested-friend : (i x : ℕ) → i < positions d → x < strands d → is_friend d i x ≡ true → Friend (model_of d) i x
  tested-friend i x h k e = subst (λ (l : List ℕ). Memᴰ x l) (sym (friends-at i h)) (tested-listed (blocked d i) i x k e)

  exactly : (i x : ℕ) → Friend (model_of d) i x ↔ Bound d i x
  unfolding befriends
  exactly i x =
      let dg = ne (cell d.dg (scaffold_glue d i) (bottom d.glues x)) zero in
      let ds = ne (cell d.ds (scaffold_glue d i) (bottom d.glues x)) zero in (
        λ f. let w = friend-tested i x f in let o = open-and (blocked d i) (dg || ds) w.2 in record { position = w.0; free = o.0; known = w.1; nonzero = either dg ds o.1 },
        λ b. tested-friend i x b.position b.known (and-open (blocked d i) (dg || ds) b.free (one_of dg ds b.nonzero)),
      )

  rising : (i : ℕ) → Rising (friends_at (model_of d) i)
  unfolding friends_to
  rising i = go (dec_lt i (positions d))
    where
      go : Dec (i < positions d) → Rising (friends_at (model_of d) i)
      go (yes h) = subst Rising (sym (friends-at i h)) (listed (blocked d i))
        where
          listed : (b : Bool) → Rising (listed_at b i)
          listed true = λ a b k l. absurd (not-suc-le-zero l)
          listed false = kept-rise (binds_at i) (strands d)
      go (no h) = subst Rising (sym (friends-past i (omega arith))) (λ a b k l. absurd (not-suc-le-zero l))

  -- strand 0 has the bottom glue 0, and column 0 has no nonzero cell
  pub null-not-bound : TablesPass d → (i : ℕ) → i < positions d → binds_at i 0 ≡ false
  unfolding befriends null_binds
  null-not-bound t i h =
      let n = neither (null_glued d.glues) (any (null_cells d.dg d.ds) (up_to 64)) t.null in
      let g = neither (not (eqb (west d.glues 0) 0)) (not (eqb (bottom d.glues 0) 0) || not (eqb (east d.glues 0) 0)) n.0 in
      let b = neither (not (eqb (bottom d.glues 0) 0)) (not (eqb (east d.glues 0) 0)) g.1 in
      let bottom-null : bottom d.glues 0 ≡ 0 = eqb-true (bottom d.glues 0) 0 (not-false _ b.0) in
      let cells = none_below (null_cells d.dg d.ds) 64 n.1 (scaffold_glue d i) ((sized d t.sizes).scaffold-low i h) in
      let column = (neither (binding d.dg d.ds 0 (scaffold_glue d i)) (binding d.dg d.ds (scaffold_glue d i) 0) cells).1 in
      subst (λ (k : ℕ). binding d.dg d.ds (scaffold_glue d i) k ≡ false) (sym bottom-null) column

  pub null-no-friend : TablesPass d → (i : ℕ) → i < positions d → is_friend d i 0 ≡ false
  null-no-friend t i h = not-bound (blocked d i) (binds_at i 0) (null-not-bound t i h)

  not_null : Admitted d → (i : ℕ) → Friend (model_of d) i 0 → ⊥
  not_null a i f =
      let w = friend-tested i 0 f in
      clash (null-no-friend (record { sizes = a.sizes; cells = a.cells; null = a.null }) i w.0) w.2

  -- ---- states

  no-stranger : (n x : ℕ) (f : Bool) → (not (eqb x 0) && not (ltb x n && f)) ≡ false → (x ≡ 0) ⊎ ((x < n) × (f ≡ true))
  no-stranger n x f e = go (eqb x 0) (ltb x n) f refl refl refl e
    where
      go : (z k g : Bool) → eqb x 0 ≡ z → ltb x n ≡ k → f ≡ g → (not z && not (k && g)) ≡ false → (x ≡ 0) ⊎ ((x < n) × (f ≡ true))
      go true k g p q r e = inl (eqb-true x 0 p)
      go false true true p q r e = inr (ltb-true x n q, r)
      go false true false p q r e = absurd (let z : ◌≡◌ {A = ℕ} 0 1 = cc in omega arith)
      go false false g p q r e = absurd (let z : ◌≡◌ {A = ℕ} 0 1 = cc in omega arith)

  a-friend : (i x : ℕ) → (x ≡ 0) ⊎ Friend (model_of d) i x → no_friend (blocked d i) (scaffold_glue d i) d.glues d.dg d.ds (strands d) x ≡ false
  a-friend i x (inl e) = simp (eq-eqb x 0 e)
  a-friend i x (inr f) = let w = friend-tested i x f in go (eqb x 0) (lt-ltb x (strands d) w.1) w.2
    where
      go : (z : Bool) → ltb x (strands d) ≡ true → is_friend d i x ≡ true → (not z && not (ltb x (strands d) && is_friend d i x)) ≡ false
      go true p q = refl
      go false p q = simp (p, q)

  states : (s : List ℕ) → length s ≡ positions d → (not_all_friends d s ≡ false) ↔ State (model_of d) s
  unfolding not_all_friends
  states s l = (
    λ e. record { places = l ∙ sym positions-are; occupants = λ i h. occupant i (rw positions-are at h) (none_below (no_friend_at d.scaffold d.marks d.glues d.dg d.ds (strands d) s) (positions d) e i (rw positions-are at h)) },
    λ w. all-below (no_friend_at d.scaffold d.marks d.glues d.dg d.ds (strands d) s) (positions d) (λ i h. a-friend i (get_or s i 0) (w.occupants i (rw positions-are h))),
  )
    where
      positions-are : length (model_of d).friends ≡ positions d
      positions-are = unfold model_of in length-tabulate (positions d) (friends_of d)

      occupant : (i : ℕ) → i < positions d → no_friend_at d.scaffold d.marks d.glues d.dg d.ds (strands d) s i ≡ false → (get_or s i 0 ≡ 0) ⊎ Friend (model_of d) i (get_or s i 0)
      occupant i h e = elim (no-stranger (strands d) (get_or s i 0) (is_friend d i (get_or s i 0)) e) [
        | inl z ↦ inl z
        | inr w ↦ inr (tested-friend i (get_or s i 0) h w.0 w.1)
      ]

pub friends-right : (d : Design) → FriendsRight d
friends-right d = record { exactly = exactly d; rising = rising d; not_null = not_null d; states = states d }
