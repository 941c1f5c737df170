-- The loop over the positions: what is kept of the entries of the last one passed and of all left choices, and what is found at the end. Over any
-- options that are some of the model's, and none is without one. Assumes nothing.
use mathlib.Core.Path.{◌≡◌, refl, sym, ap, ◌∙◌, subst}
use mathlib.Core.Logic.{◌⊎◌, inl, inr}
use mathlib.Core.Bool.{Bool, true, false, cond}
use mathlib.Core.List.Memᴰ
use mathlib.Core.List.{List, [], ◌∷◌, Memᴰ}
use Prim.Native.Nat.{ℕ, zero, suc, ◌+◌, ◌*◌, ◌<◌}
use native.Mathlib.Nat.{le_refl, ne_of_lt, not-suc-le-zero}
use native.Mathlib.Numerals.{add-one}
use native.Mathlib.Decide.{ℕ_discrete}
use native.Mathlib.Omega.{arith}
use lib.ListN.{length, get_or, set, length-append, get_or-append}
use lib.Seq.{get_or-set_same, get_or-set_other, get_or-append_seam}
use lib.Ieee.{Float, nan, binary64, mul, lt}
use borrow.Author.Count.{below_more}
use borrow.Author.Tests.{ne_eqb}
use Rattle.lists.specs.Fold.{foldl}
use Rattle.lists.proofs.Places.{mem-get_or}
use Rattle.doubles.specs.Decimal as Decimal
use Rattle.doubles.specs.Least.{or_later, or_earlier, pick, last_least, first_least}
use Rattle.model.specs.Model.{Model, Friend, friends_at, options_of}
use Rattle.model.specs.Model as Model
use Rattle.model.specs.Search.{entry, compared, left_choice, traced, product, options_at, times_rt, search_over, search}
use Rattle.model.proofs.Search.{some-option}
use Rattle.model.proofs.Traced.{traced-same}
use Rattle.ensemble.specs.declared.attach.Attached.{Attached}
use Rattle.ensemble.specs.Layout.{BondCells, Found}
use Rattle.ensemble.specs.inner.Entries.{key_of, Chosen, Known, table_bond, Attachments, settled_of, Energies, choice_in, traced_back}
use Rattle.ensemble.specs.inner.Passed.{OptionsOf, left_options, Left, Table}
use Rattle.ensemble.proofs.Vector.{Attaches, friend-attaches, empty-attaches, friend-entry, energies-more}
use Rattle.ensemble.proofs.Choosing.{some_key}

-- ---- the one picked is one of the list

module _ (better : ℕ → ℕ → ℕ) (either : (kept x : ℕ) → (better kept x ≡ kept) ⊎ (better kept x ≡ x)) where
  from_member : (kept : ℕ) (xs : List ℕ) → Memᴰ (foldl better kept xs) (kept ∷ xs)
  unfolding foldl
  from_member kept [] = Memᴰ.head refl
  from_member kept (x ∷ xs) = go (either kept x) (Memᴰ.cases_cons (from_member (better kept x) xs))
    where
      go : {r : ℕ} → (better kept x ≡ kept) ⊎ (better kept x ≡ x) → (r ≡ better kept x) ⊎ Memᴰ r xs → Memᴰ r (kept ∷ x ∷ xs)
      go (inl e) (inl f) = Memᴰ.head (f ∙ e)
      go (inr e) (inl f) = Memᴰ.tail (Memᴰ.head (f ∙ e))
      go o (inr m) = Memᴰ.tail (Memᴰ.tail m)

  pick-member : (xs : List ℕ) → 0 < length xs → Memᴰ (pick better xs) xs
  unfolding pick
  pick-member [] h = absurd (not-suc-le-zero h)
  pick-member (x ∷ xs) h = from_member x xs

either-of : (t : Bool) (kept x : ℕ) → (cond t kept x ≡ kept) ⊎ (cond t kept x ≡ x)
either-of true kept x = inl refl
either-of false kept x = inr refl

swapped : {A B : Type 0} → A ⊎ B → B ⊎ A
swapped (inl a) = inr a
swapped (inr b) = inl b

choice-option : (m : Model) (options : ℕ → List ℕ) → ((i : ℕ) → 0 < length (options i)) → (i x : ℕ) → Memᴰ (left_choice m options (suc i) x) (options i)
unfolding left_choice
choice-option m options some i x =
    let key = compared m options i x in
    pick-member (or_later key) (λ kept y. either-of (lt (key kept) (key y)) kept y) (options i) (some i)

-- ---- what the loop keeps

-- where a member stands
record Index (x : ℕ) (xs : List ℕ) : Type 0 where
  place : ℕ
  inside : place < length xs
  is : get_or xs place 0 ≡ x

index_of : {x : ℕ} {xs : List ℕ} → Memᴰ x xs → Index x xs
index_of (Memᴰ.head e) = record { place = 0; inside = omega arith; is = sym e }
index_of (Memᴰ.tail m) = let w = index_of m in let l = w.inside in record { place = suc w.place; inside = omega arith; is = w.is }

-- a friend is an option that is not 0
of-options : (m : Model) (i x : ℕ) → (x ≡ 0 → ⊥) → Memᴰ x (options_at m i) → Friend m i x
of-options m i x some o = go (Memᴰ.append_cases (friends_at m i) o)
  where
    go : Friend m i x ⊎ Memᴰ x (0 ∷ []) → Friend m i x
    go (inl f) = f
    go (inr z) = absurd (some (Memᴰ.eq_of_singleton z))

-- one position more: its friends have their left choices and energies, and so has empty
module _ {m : Model} {options : ℕ → List ℕ} (they : OptionsOf m options) {strands : ℕ} {strand_bonds scaffold_bonds potentials : List Float} (b : BondCells m strands strand_bonds scaffold_bonds potentials)
    (i : ℕ) (h : i < Model.positions m) (friends : List ℕ) (is : friends ≡ friends_at m i) (whole : options i ≡ options_at m i) (known : Known strands friends) (left : List ℕ) (energies : List Float) (old : Left m options i left energies)
    (best : List Float) (choice_row : List ℕ) (att : Attachments (table_bond strands strand_bonds) left energies friends (length friends) best choice_row)
    (r : Attached) (chosen : (key : ℕ → Float) → ((k : ℕ) → k < length left → get_or energies k nan ≡ key (get_or left k 0)) → Chosen key left (last_least key left) r) where
  friend : (k : ℕ) → k < length friends → Friend m i (get_or friends k 0)
  friend k l = subst (λ (xs : List ℕ). Memᴰ (get_or friends k 0) xs) is (mem-get_or 0 friends k l)

  occupied : (k : ℕ) → k < length friends → get_or friends k 0 ≡ 0 → ⊥
  occupied k l e = b.not_null i (subst (λ (x : ℕ). Friend m i x) e (friend k l))

  pairs : (y : ℕ) → Friend m i y → (j : ℕ) → j < length left → table_bond strands strand_bonds (get_or left j 0) y ≡ m.pair (get_or left j 0) y
  pairs y f j l = go i h f old.are
    where
      go : (i : ℕ) → i < Model.positions m → Friend m i y → left ≡ left_options options i → table_bond strands strand_bonds (get_or left j 0) y ≡ m.pair (get_or left j 0) y
      go zero h f e = absurd (not-suc-le-zero (rw e at l))
      go (suc i) h f e = b.pairs i (get_or left j 0) y (rw (add-one i) h) (they.own i (get_or left j 0) (subst (λ (xs : List ℕ). Memᴰ (get_or left j 0) xs) e (mem-get_or 0 left j l))) (rw (add-one i) f)

  attaches : (k : ℕ) → k < length friends → Attaches m options i (get_or friends k 0) (record { strand = get_or choice_row (get_or friends k 0) 0; energy = get_or best (get_or friends k 0) nan })
  attaches k l = friend-attaches m options they.some left energies _ i (get_or friends k 0) (table_bond strands strand_bonds) (occupied k l) old (pairs (get_or friends k 0) (friend k l)) (att.chosen k l)

  none : Attaches m options i 0 r
  none = empty-attaches m options they.some left energies r i old chosen

  module _ (sites : List Float) (cells : (x : ℕ) → x < strands → get_or sites x nan ≡ get_or scaffold_bonds (i * strands + x) nan) (next : List Float) (inside : length friends < length next)
      (settled : Energies (settled_of sites potentials best) friends (length friends) next) where
    entries : Energies (entry m options i) (options_of friends) (length friends + 1) (set next (length friends) r.energy)
    entries =
        energies-more (entry m options i) (options_of friends) (length friends) next r.energy inside
        (λ k l.
        let x = get_or friends k 0 in
        settled k l
        ∙ friend-entry m options i x (occupied k l) (attaches k l).energy (cells x (known k l) ∙ b.sites i x h (friend k l)) (b.logs i x h (friend k l))
        ∙ ap (entry m options i) (sym (get_or-append friends (0 ∷ []) 0 k l)))
        (none.energy ∙ ap (entry m options i) (sym (get_or-append_seam friends 0 [] 0)))

    pub left-more : (row : List ℕ) (n : ℕ) → row ≡ options_at m i → n ≡ length friends → Left m options (i + 1) row (set next n r.energy)
    left-more row n e number =
        rw (add-one, e ∙ ap options_of (sym is), number) (record { are = ap options_of is ∙ sym whole; entries = rw (length-append friends (0 ∷ [])) entries })

  friend-choice : (x : ℕ) → Friend m i x → get_or choice_row x 0 ≡ left_choice m options i x
  friend-choice x f =
      let k = index_of (subst (λ (xs : List ℕ). Memᴰ x xs) (sym is) f) in
      rw k.is at (attaches k.place k.inside).strand

  pub table_more : (choice : List (List ℕ)) (empty : List ℕ) → i < length choice → i < length empty → Table m options i choice empty → Table m options (i + 1) (set choice i choice_row) (set empty i r.strand)
  table_more choice empty in-choice in-empty table =
      below_more (λ (j : ℕ). 0 < j → (x : ℕ) → Memᴰ x (options j) → choice_in (set choice i choice_row) (set empty i r.strand) j x ≡ left_choice m options j x) i earlier
      (λ past x o. here x o (ℕ_discrete x 0))
    where
      earlier : (j : ℕ) → j < i → 0 < j → (x : ℕ) → Memᴰ x (options j) → choice_in (set choice i choice_row) (set empty i r.strand) j x ≡ left_choice m options j x
      earlier j l past x o = rw (get_or-set_other choice i j choice_row [] (ne_of_lt l), get_or-set_other empty i j r.strand 0 (ne_of_lt l)) (table j l past x o)

      here : (x : ℕ) → Memᴰ x (options i) → Dec (x ≡ 0) → choice_in (set choice i choice_row) (set empty i r.strand) i x ≡ left_choice m options i x
      here x o (yes e) = rw (get_or-set_same choice i choice_row [] in-choice, get_or-set_same empty i r.strand 0 in-empty, e) none.strand
      here x o (no some) = rw (get_or-set_same choice i choice_row [] in-choice, get_or-set_same empty i r.strand 0 in-empty, ne_eqb x 0 some) (friend-choice x (of-options m i x some (they.own i x o)))

-- ---- at the end

module _ {m : Model} {options : ℕ → List ℕ} (they : OptionsOf m options) (ending : ℕ → Float → Float) (choice : List (List ℕ)) (empty left : List ℕ) (energies : List Float) (r : Attached) (written : List ℕ)
    (chosen : (key : ℕ → Float) → ((k : ℕ) → k < length left → ending (get_or left k 0) (get_or energies k nan) ≡ key (get_or left k 0)) → Chosen key left (first_least key left) r) where
  pub found-over : (position : ℕ) → Left m options position left energies → Table m options position choice empty → written ≡ traced_back (choice_in choice empty) position r.strand
      → (written ≡ (search_over m options ending position).configuration) × (r.energy ≡ (search_over m options ending position).energy)
  unfolding search_over traced_back key_of
  found-over zero w table is =
      let c = rw w.are at (chosen (λ _. Decimal.zero) (λ k h. absurd (not-suc-le-zero (rw w.are at h)))) in
      (is, c.energy)
  found-over (suc last) w table is =
      let key = product m options ending last in
      let c = rw w.are at (chosen key (λ k h. ap (ending (get_or left k 0)) (w.entries k h))) in
      let x = first_least key (options last) in
      let o = pick-member (or_earlier key) (λ kept y. swapped (either-of (lt (key y) (key kept)) y kept)) (options last) (they.some last) in (
        is
            ∙ ap (λ (y : ℕ). traced (choice_in choice empty) last y []) c.strand
            ∙ traced-same (left_choice m options) (choice_in choice empty) options last (λ i y l k. choice-option m options they.some i y) (λ i y l k. table (suc i) (omega arith) (omega arith) y k) last x [] (le_refl last) o,
        c.energy ∙ some_key key (options last) x (they.some last),
      )

-- ---- of a model's own options

pub own-options : (m : Model) → OptionsOf m (options_at m)
own-options m = record { own = λ i x o. o; some = some-option m }

pub found : {m : Model} (choice : List (List ℕ)) (empty left : List ℕ) (energies : List Float) (rt : Float) (r : Attached) (written : List ℕ) → rt ≡ m.rt
    → ((key : ℕ → Float) → ((k : ℕ) → k < length left → mul binary64 (get_or energies k nan) rt ≡ key (get_or left k 0)) → Chosen key left (first_least key left) r)
    → (position : ℕ) → position ≡ Model.positions m → Left m (options_at m) position left energies → Table m (options_at m) position choice empty → written ≡ traced_back (choice_in choice empty) position r.strand → Found m written r.energy
unfolding search
found {m} choice empty left energies rt r written rt-is chosen position e w table is =
    let v = rw e at (found-over (own-options m) (times_rt m) choice empty left energies r written (rw rt-is at chosen) position w table is) in
    record { shown = v.0; least = v.1 }
