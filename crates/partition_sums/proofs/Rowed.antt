-- A row of terms written by strand, one for each option of a position, and its sums. Assumes nothing.
use mathlib.Core.Path.{◌≡◌, refl, sym, ap, ◌∙◌, subst}
use mathlib.Core.Logic.{◌≢◌}
use mathlib.Core.List.{List, [], ◌∷◌, Memᴰ}
use Prim.Native.Nat.{ℕ, suc, ◌+◌, ◌-◌, ◌^◌, ◌≤◌, ◌<◌}
use native.Mathlib.Nat.{not-suc-le-zero, lt_of_not-le, add_comm}
use native.Mathlib.Numerals.{add-one}
use native.Mathlib.Omega.{arith}
use native.Mathlib.Decide.{dec_le, ℕ_discrete}
use lib.ListN.{length, get_or, set, length-set, take, drop, length-drop, drop_of_length-le}
use lib.Seq.{drop-cons, get_or-set_same, get_or-set_other}
use Rattle.std.proofs.lemmas.List.{take_all}
use Rattle.std.proofs.lemmas.Grind.{get_or_after_one}
use Rattle.partition.specs.declared.Term.{Term}
use Rattle.partition.specs.Terms.{term, size, times, plus}
use Rattle.partition.specs.Pass.{sum_from, sum_terms, passed}
use Rattle.partition.specs.Weights.{Weights}
use Rattle.partition.specs.inner.Used.{Fit}
use Rattle.partition.proofs.Passed.{Some, fit-holds, sum_terms-some}
use Rattle.partition.proofs.AtPosition.{mem_index}
use Rattle.partition_sums.specs.inner.Rows.{place_term, pair_term, row_term, joined}

-- ---- the sum left to right, from place k on
module _ (f : ℕ → Term) where
  pub sum_first : (xs : List ℕ) → 0 < length xs → sum_terms f xs ≡ sum_from f (f (get_or xs 0 0)) (drop 1 xs)
  unfolding sum_terms
  sum_first [] h = absurd (not-suc-le-zero h)
  sum_first (x ∷ xs) h = refl

  pub sum_more : (xs : List ℕ) (t : Term) (k : ℕ) → k < length xs → sum_from f t (drop k xs) ≡ sum_from f (plus t (f (get_or xs k 0))) (drop (k + 1) xs)
  unfolding sum_from
  sum_more xs t k h = rw (add-one k, drop-cons xs k 0) refl

  pub sum_done : (xs : List ℕ) (t : Term) (k : ℕ) → length xs ≤ k → sum_from f t (drop k xs) ≡ t
  unfolding sum_from
  sum_done xs t k h = rw (drop_of_length-le xs h) refl

-- the options past the first, lent as a part
module _ (xs : List ℕ) where
  rest-is : take (length xs - 1) (drop 1 xs) ≡ drop 1 xs
  rest-is = take_all (length xs - 1) (drop 1 xs) (let n = length-drop 1 xs in omega arith)

  pub rest-at : (i : ℕ) → get_or (take (length xs - 1) (drop 1 xs)) i 0 ≡ get_or xs (i + 1) 0
  rest-at i = rw rest-is (get_or_after_one xs i 0 ∙ ap (λ (k : ℕ). get_or xs k 0) (add_comm 1 i))

  pub rest-in : (i : ℕ) → i < length (take (length xs - 1) (drop 1 xs)) → i + 1 < length xs
  rest-in i h = let n = ap length rest-is ∙ length-drop 1 xs in omega arith

  pub rest-past : (i : ℕ) → length (take (length xs - 1) (drop 1 xs)) ≤ i → length xs ≤ i + 1
  rest-past i h = let n = ap length rest-is ∙ length-drop 1 xs in omega arith

-- ---- a sum over options has its form
some_of : (xs : List ℕ) → 0 < length xs → length xs ≤ 64 → Some xs
some_of [] h l = absurd (not-suc-le-zero h)
some_of (x ∷ xs) h l = record { first = x; rest = xs; split = refl; few = omega arith }

pub sum-fit : (f : ℕ → Term) (xs : List ℕ) → 0 < length xs → length xs ≤ 64 → ((k : ℕ) → k < length xs → Fit (2 ^ 31) (f (get_or xs k 0))) → Fit (2 ^ 32) (sum_terms f xs)
sum-fit f xs h l each =
    let s = sum_terms-some 0 (2 ^ 31) f (λ y. size (f y)) xs (some_of xs h l) (λ y m. let w = mem_index xs m in fit-holds (subst (λ (z : ℕ). Fit (2 ^ 31) (f z)) (sym w.2) (each w.0 w.1))) in
    record { form = s.form; low = omega (arith, s.low) }

-- ---- what is written so far

-- of the first k options the terms are written, each at its strand
pub record Written (step : ℕ → Term) (here : List ℕ) (k : ℕ) (row : List Term) : Type 0 where
  pub sized : length row ≡ 64
  pub done : (j : ℕ) → j < k → row_term row (get_or here j 0) ≡ step (get_or here j 0)

pub written-more : (step : ℕ → Term) (here : List ℕ) (row : List Term) (k x : ℕ) (t : Term) → x < 64 → x ≡ get_or here k 0 → t ≡ step x → Written step here k row → Written step here (k + 1) (set row x t)
written-more step here row k x t X e s w = record { sized = rw (length-set row x t) w.sized; done = each }
  where
    here-now : row_term (set row x t) x ≡ step x
    here-now = rw (get_or-set_same row x t (term 0 0) (rw w.sized X)) s

    at : (y : ℕ) → (y ≢ x → row_term row y ≡ step y) → Dec (y ≡ x) → row_term (set row x t) y ≡ step y
    at y old (yes f) = subst (λ (z : ℕ). row_term (set row x t) z ≡ step z) (sym f) here-now
    at y old (no f) = rw (get_or-set_other row x y t (term 0 0) f) (old f)

    each : (j : ℕ) → j < k + 1 → row_term (set row x t) (get_or here j 0) ≡ step (get_or here j 0)
    each j l = at (get_or here j 0) (λ f. w.done j (before j l f (dec_le (suc j) k))) (ℕ_discrete (get_or here j 0) x)
      where
        before : (j : ℕ) → j < k + 1 → (get_or here j 0 ≢ x) → Dec (suc j ≤ k) → j < k
        before j l f (yes h) = h
        before j l f (no h) = absurd (f (ap (λ (z : ℕ). get_or here z 0) (same j l h) ∙ sym e))
          where
            same : (j : ℕ) → j < k + 1 → (suc j ≤ k → ⊥) → j ≡ k
            same j l h = let g : k < suc j = lt_of_not-le h in omega arith

-- all of them
pub written-all : {step : ℕ → Term} {here : List ℕ} {k : ℕ} {row : List Term} → Written step here k row → length here ≤ k → (x : ℕ) → Memᴰ x here → row_term row x ≡ step x
written-all {step} {here} w h x m = let k = mem_index here m in rw k.2 (w.done k.0 (omega (arith, k.1)))

-- ---- the step is the pass's, where the row of the next position holds the pass's terms
sum-from-same : (f g : ℕ → Term) (xs : List ℕ) (t : Term) → ((y : ℕ) → Memᴰ y xs → f y ≡ g y) → sum_from f t xs ≡ sum_from g t xs
unfolding sum_from
sum-from-same f g [] t h = refl
sum-from-same f g (x ∷ xs) t h = ap (λ (z : Term). sum_from f (plus t z) xs) (h x (Memᴰ.head refl)) ∙ sum-from-same f g xs (plus t (g x)) (λ y m. h y (Memᴰ.tail m))

pub sum-terms-same : (f g : ℕ → Term) (xs : List ℕ) → ((y : ℕ) → Memᴰ y xs → f y ≡ g y) → sum_terms f xs ≡ sum_terms g xs
unfolding sum_terms
sum-terms-same f g [] h = refl
sum-terms-same f g (x ∷ xs) h = ap (λ (z : Term). sum_from f z xs) (h x (Memᴰ.head refl)) ∙ sum-from-same f g xs (g x) (λ y m. h y (Memᴰ.tail m))

module _ (w : Weights) (i : ℕ) (next : List ℕ) (later : List (List ℕ)) (row : List Term) where
  pub step-passed : (x : ℕ) → ((y : ℕ) → Memᴰ y next → row_term row y ≡ passed (place_term w) (pair_term w) (suc i) later y)
      → times (place_term w i x) (sum_terms (joined w row x) next) ≡ passed (place_term w) (pair_term w) i (next ∷ later) x
  unfolding passed joined
  step-passed x r = ap (times (place_term w i x)) (sum-terms-same _ (λ y. times (pair_term w x y) (passed (place_term w) (pair_term w) (suc i) later y)) next (λ y m. ap (times (pair_term w x y)) (r y m)))
