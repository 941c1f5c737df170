-- The figures of a model and lent weights are document 02's sums. Assumes nothing.
use mathlib.Core.Path.{◌≡◌, refl, sym, ap, ap₂, ◌∙◌}
use mathlib.Core.Logic.{◌⊎◌, inl, inr}
use mathlib.Core.Bool.{Bool, true, false, ◌&&◌}
use mathlib.Core.List.Memᴰ
use mathlib.Core.List.{List, [], ◌∷◌, map, Memᴰ}
use Prim.Native.Nat.{ℕ, suc, ◌+◌, ◌*◌, ◌^◌, ◌≤◌, ◌<◌}
use native.Mathlib.Nat.{suc-ne-zero, suc_inj, zero-lt-suc, add-zero, zero-add}
use native.Mathlib.Numerals.{add-one}
use native.Mathlib.Omega.{arith}
use borrow.Author.Tests.{leb-true, ltb-true, not-false}
use lib.Dec.{leb, ltb, lit≤}
use lib.IntN.{ℤ, pos, negsuc}
use lib.ListN.{length, get_or, length-map, length-append}
use Rattle.lists.specs.Build.{up_to, keep}
use Rattle.lists.specs.Find.{any}
use Rattle.lists.proofs.Tests.{both, neither}
use Rattle.lists.proofs.Any.{none_below}
use Rattle.fractions.specs.declared.Weight.{Weight}
use Rattle.model.specs.Model.{positions, options, options_of}
use Rattle.partition.specs.Constraint.{allows}
use Rattle.partition.specs.Pass.{allowed}
use Rattle.partition.specs.Weights.{Weights, place_weight, pair_weight, exponent_fits, unformed, place_out, pair_out, pairs_out, places_out_at, pairs_out_at, weights_out}
use Rattle.partition.specs.Summed.{lifted, sum_of_weights}
use Rattle.partition.specs.Laws.{SumsOfModels}
use Rattle.partition.specs.inner.Used.{Reaches, Weighs, PlaceFit, PairFit, Used, InUse}
use Rattle.partition.proofs.Summed.{Few, summed-right, constrained-right}

-- ---- members

none-member : {A : Type 0} {x : A} (p : A → Bool) (xs : List A) → any p xs ≡ false → Memᴰ x xs → p x ≡ false
unfolding any
none-member p [] e m = absurd (Memᴰ.not-nil m)
none-member {A} {x} p (y ∷ ys) e m = go (Memᴰ.cases_cons m) (neither (p y) (any p ys) e) (λ k. none-member p ys (neither (p y) (any p ys) e).1 k)
  where
    go : (x ≡ y) ⊎ Memᴰ x ys → (p y ≡ false) × (any p ys ≡ false) → (Memᴰ x ys → p x ≡ false) → p x ≡ false
    go (inl f) b rest = ap p f ∙ b.0
    go (inr k) b rest = rest k

-- an option that is not 0 is a friend
pub occupied : {x : ℕ} (friends : List ℕ) → (x ≡ 0 → ⊥) → Memᴰ x (options_of friends) → Memᴰ x friends
occupied {x} friends some m = go (Memᴰ.append_cases friends m)
  where
    go : Memᴰ x friends ⊎ Memᴰ x (0 ∷ []) → Memᴰ x friends
    go (inl f) = f
    go (inr z) = absurd (some (Memᴰ.eq_of_singleton z))

-- ---- a weight in its form

exponent-reaches : (z : ℤ) → exponent_fits z ≡ true → Reaches 400000 z × (lifted 400000 z ≤ 2 * 400000)
exponent-reaches (pos k) e = let h : k ≤ 400000 = leb-true k 400000 (both true (leb k 400000) e).1 in (tt, omega arith)
exponent-reaches (negsuc k) e = let h : k ≤ 399999 = leb-true k 399999 (both (leb k 399999) true e).0 in (omega arith, omega arith)

module _ (w : Weights) where
  formed : (v : Weight) → unformed v ≡ false → Weighs 400000 v
  unfolding unformed
  formed v e =
      let p = both (leb (2 ^ 30) v.digits) (ltb v.digits (2 ^ 31) && exponent_fits v.power) (not-false _ e) in
      let q = both (ltb v.digits (2 ^ 31)) (exponent_fits v.power) p.1 in
      let r = exponent-reaches v.power q.1 in
      record { form = record { least = leb-true _ _ p.0; most = ltb-true _ _ q.0 }; reaches = r.0; low = r.1 }

  -- ---- none that a state uses is out of form

  abbrev Placed : ℕ → ℕ → Type 0
  Placed = PlaceFit 400000 (place_weight w)

  abbrev Paired : ℕ → ℕ → Type 0
  Paired = PairFit 400000 (pair_weight w)

  placed : (i x : ℕ) (friends : List ℕ) → any (place_out w i) friends ≡ false → Memᴰ x (options_of friends) → Placed i x
  placed i x friends e m some = formed (place_weight w i x) (none-member (place_out w i) friends e (occupied friends some m))

  paired : (x y : ℕ) (left right : List ℕ) → any (pairs_out w right) left ≡ false → Memᴰ x (options_of left) → Memᴰ y (options_of right) → Paired x y
  paired x y left right e m k some other =
      formed (pair_weight w x y) (none-member (pair_out w x) right (none-member (pairs_out w right) left e (occupied left some m)) (occupied right other k))

  used : (friends : List (List ℕ)) (i : ℕ) → ((k : ℕ) → k < length friends → any (place_out w (i + k)) (get_or friends k []) ≡ false)
      → ((k : ℕ) → k < length friends → any (pairs_out w (get_or friends (k + 1) [])) (get_or friends k []) ≡ false) → Used Placed Paired i (map options_of friends)
  used [] i p q = tt
  used (here ∷ []) i p q = λ x m. placed i x here (rw (add-zero i) at (p 0 (zero-lt-suc 0))) m
  used (here ∷ next ∷ later) i p q =
      let n = length later in (
        λ x m. placed i x here (rw (add-zero i) at (p 0 (omega arith))) m,
        λ x y m k. paired x y here next (q 0 (omega arith)) m k,
        used (next ∷ later) (suc i) (λ k h. rw (add-suc-left i k) (p (suc k) (omega arith))) (λ k h. rw (add-one k) (rw (add-one (suc k)) at (q (suc k) (omega arith)))),
      )
    where
      add-suc-left : (i k : ℕ) → suc i + k ≡ i + suc k
      add-suc-left i k = omega arith

  pub in_use : (friends : List (List ℕ)) → weights_out friends w ≡ false → InUse w 0 (map options_of friends)
  unfolding weights_out
  in_use friends e =
      let p = neither (any (places_out_at friends w) (up_to (length friends))) (any (pairs_out_at friends w) (up_to (length friends))) e in
      used friends 0 (λ k h. rw (zero-add k) (none_below (places_out_at friends w) (length friends) p.0 k h)) (λ k h. none_below (pairs_out_at friends w) (length friends) p.1 k h)

-- ---- at most 64 options

few : (friends : List (List ℕ)) → ((i : ℕ) → length (get_or friends i []) ≤ 63) → Few (map options_of friends)
few [] h = tt
few (here ∷ later) h = (rw (length-append here (0 ∷ [])) (let l = h 0 in omega arith), few later (λ i. h (suc i)))

-- ---- lists that are all empty leave every option

pub keep_all : (xs : List ℕ) → keep (allows []) xs ≡ xs
unfolding keep allows
keep_all [] = refl
keep_all (x ∷ xs) = ap (x ∷◌) (keep_all xs)

allowed_all : (lists options : List (List ℕ)) → length lists ≡ length options → ((i : ℕ) → get_or lists i [] ≡ []) → allowed lists options ≡ options
unfolding allowed
allowed_all [] [] e h = refl
allowed_all [] (here ∷ later) e h = absurd (suc-ne-zero _ (sym e))
allowed_all (c ∷ cs) [] e h = absurd (suc-ne-zero _ e)
allowed_all (c ∷ cs) (here ∷ later) e h =
    ap₂ ◌∷◌ (ap (λ (z : List ℕ). keep (allows z) here) (h 0) ∙ keep_all here) (allowed_all cs later (suc_inj e) (λ i. h (suc i)))

-- ---- the sums of every model

pub sums-of-models : SumsOfModels
sums-of-models m w some short sixty e =
    let n : length (options m) ≡ positions m = length-map m.friends options_of in
    let short' : length (options m) ≤ 128 = rw n short in
    let some' : 0 < length (options m) = rw n some in
    let u = in_use w m.friends e in
    let f = few m.friends sixty in
    record {
      free = summed-right 400000 (lit≤ tt) (place_weight w) (pair_weight w) (options m) short' some' u f;
      constrained = λ lists l. constrained-right 400000 (lit≤ tt) (place_weight w) (pair_weight w) lists (options m) (l ∙ sym n) short' some' u f;
      unconstrained = λ lists l none. ap (sum_of_weights w) (allowed_all lists (options m) (l ∙ sym n) none);
    }
