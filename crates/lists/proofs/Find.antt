-- A loop that looks for the first element that passes a test keeps `first_index p xs ≡ i + first_index p (drop i xs)`. Assumes nothing.
use mathlib.Core.Path.{◌≡◌, refl, sym, ◌∙◌}
use mathlib.Core.Bool.{Bool, true, false, cond, ◌||◌, or_assoc}
use mathlib.Core.List.{List, [], ◌∷◌, ◌++◌, map}
use Prim.Native.Nat.{ℕ, zero, suc, ◌+◌, ◌<◌, ◌≤◌}
use native.Mathlib.Nat.{le_of_suc-le-suc, not-suc-le-zero}
use native.Mathlib.Omega.{arith}
use native.Mathlib.Numerals.{add-one}
use lib.Dec.{ltb}
use lib.ListN.{length, get_or, drop, replicate, drop_of_length-le}
use lib.Seq.{drop-cons}
use borrow.Author.Tests.{lt-ltb, le-ltb, ltb-true, ltb-false}
use Rattle.lists.specs.Find.{any, first_index}

module _ {A : Type 0} (p : A → Bool) (xs : List A) (i : ℕ) where
  pub first-here : (d : A) → i < length xs → p (get_or xs i d) ≡ true → first_index p (drop i xs) ≡ 0
  unfolding first_index
  first-here d h e = rw (drop-cons xs i d) (simp e)

  pub first-later : (d : A) → i < length xs → p (get_or xs i d) ≡ false → first_index p (drop i xs) ≡ suc (first_index p (drop (i + 1) xs))
  unfolding first_index
  first-later d h e = rw (add-one, drop-cons xs i d) (simp e)

  pub first_past : length xs ≤ i → first_index p (drop i xs) ≡ 0
  unfolding first_index
  first_past h = rw (drop_of_length-le xs h)

pub first-le-step : (t : Bool) (m n : ℕ) → m ≤ n → cond t 0 (suc m) ≤ suc n
first-le-step true m n h = omega arith
first-le-step false m n h = omega arith

module _ {A : Type 0} (p : A → Bool) where
  pub first-le : (xs : List A) → first_index p xs ≤ length xs
  unfolding first_index
  first-le [] = omega arith
  first-le (x ∷ xs) = first-le-step (p x) _ _ (first-le xs)

  any_step : (t b : Bool) (m n : ℕ) → ltb m n ≡ b → ltb (cond t 0 (suc m)) (suc n) ≡ (t || b)
  any_step true b m n e = lt-ltb 0 (suc n) (omega arith)
  any_step false true m n e = lt-ltb (suc m) (suc n) (omega (arith, ltb-true m n e))
  any_step false false m n e = le-ltb (suc m) (suc n) (omega (arith, ltb-false m n e))

  -- a first place below the length is what it is for some element to pass
  pub first_any : (xs : List A) → ltb (first_index p xs) (length xs) ≡ any p xs
  unfolding first_index any
  first_any [] = refl
  first_any (x ∷ xs) = any_step (p x) (any p xs) _ _ (first_any xs)

  pub any-true : (xs : List A) → first_index p xs < length xs → any p xs ≡ true
  any-true xs h = sym (first_any xs) ∙ lt-ltb _ _ h

  pub any_false : (xs : List A) → length xs ≤ first_index p xs → any p xs ≡ false
  any_false xs h = sym (first_any xs) ∙ le-ltb _ _ h

  before-step : (x : A) (xs : List A) (t : Bool) (k : ℕ) → p x ≡ t → k < cond t 0 (suc (first_index p xs)) → (t ≡ false) × (k ≤ first_index p xs)
  before-step x xs true k e h = absurd (not-suc-le-zero h)
  before-step x xs false k e h = (refl, le_of_suc-le-suc h)

  -- each element before the first that passes fails
  pub fails-before : (d : A) (xs : List A) (k : ℕ) → k < first_index p xs → p (get_or xs k d) ≡ false
  unfolding first_index
  fails-before d [] k h = absurd (not-suc-le-zero h)
  fails-before d (x ∷ xs) zero h = (before-step x xs _ zero refl h).0
  fails-before d (x ∷ xs) (suc k) h = fails-before d xs k (before-step x xs _ (suc k) refl h).1

  -- where none passes, each fails
  pub each-fails : (d : A) (xs : List A) → first_index p xs ≡ length xs → (k : ℕ) → k < length xs → p (get_or xs k d) ≡ false
  each-fails d xs e k h = fails-before d xs k (rw e h)

  -- and the first that passes does
  pub passes-first : (d : A) (xs : List A) → first_index p xs < length xs → p (get_or xs (first_index p xs) d) ≡ true
  unfolding first_index
  passes-first d [] h = absurd (not-suc-le-zero h)
  passes-first d (x ∷ xs) h = go (p x) refl h (passes-first d xs)
    where
      go : (t : Bool) → p x ≡ t → cond t 0 (suc (first_index p xs)) < suc (length xs) → (first_index p xs < length xs → p (get_or xs (first_index p xs) d) ≡ true)
          → p (get_or (x ∷ xs) (cond t 0 (suc (first_index p xs))) d) ≡ true
      go true e h rest = e
      go false e h rest = rest (le_of_suc-le-suc h)

  pub any_append : (xs ys : List A) → any p (xs ++ ys) ≡ (any p xs || any p ys)
  unfolding any
  any_append [] ys = refl
  any_append (x ∷ xs) ys = rw (any_append xs ys) (sym (or_assoc (p x) (any p xs) (any p ys)))

  pub any-replicate : (n : ℕ) (x : A) → p x ≡ false → any p (replicate n x) ≡ false
  unfolding any
  any-replicate zero x e = refl
  any-replicate (suc n) x e = rw (e, any-replicate n x e)

module _ {A B : Type 0} where
  pub first-map : (p : B → Bool) (f : A → B) (xs : List A) → first_index p (map f xs) ≡ first_index (λ x. p (f x)) xs
  unfolding first_index
  first-map p f [] = refl
  first-map p f (x ∷ xs) = rw (first-map p f xs)

module _ {A : Type 0} where
  -- two tests that agree find the same place
  pub first-same : (p q : A → Bool) → ((x : A) → p x ≡ q x) → (xs : List A) → first_index p xs ≡ first_index q xs
  unfolding first_index
  first-same p q e [] = refl
  first-same p q e (x ∷ xs) = rw (e x, first-same p q e xs)
