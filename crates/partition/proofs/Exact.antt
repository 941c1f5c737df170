-- Sums over states in whole numbers: over the listing of the states, and the same position by position. Assumes nothing.
use mathlib.Core.Path.{◌≡◌, refl, sym, ap, ap₂, ◌∙◌}
use mathlib.Core.List.{List, [], ◌∷◌, ◌++◌, map}
use Prim.Native.Nat.{ℕ, suc, ◌+◌, ◌*◌}
use native.Mathlib.Nat.{mul-add, mul-zero, add-zero, add_assoc, zero-add}
use Rattle.model.specs.States.{each_before, listing}

-- a number for each element, summed
unfoldable pub sum_over : {A : Type 0} → (A → ℕ) → List A → ℕ
sum_over f [] = 0
sum_over f (x ∷ xs) = f x + sum_over f xs

module _ (place pair : ℕ → ℕ → ℕ) where
  -- the product of the factors of the occupants from a position on: each place's, and each neighbouring pair's
  unfoldable pub weight_from : ℕ → List ℕ → ℕ
  weight_from i [] = 1
  weight_from i (x ∷ []) = place i x
  weight_from i (x ∷ y ∷ s) = place i x * (pair x y * weight_from (suc i) (y ∷ s))

  -- the sum over all states of a list of options
  unfoldable pub sum_of_states : List (List ℕ) → ℕ
  unfolding listing sum_over weight_from
  sum_of_states options = sum_over (weight_from 0) (listing options)

  -- ---- position by position: an occupant with all that can follow it
  unfoldable pub onward : ℕ → List (List ℕ) → ℕ → ℕ
  unfolding sum_over
  onward i [] x = place i x
  onward i (next ∷ later) x = place i x * sum_over (λ y. pair x y * onward (suc i) later y) next

  unfoldable pub whole : List (List ℕ) → ℕ
  unfolding sum_over onward
  whole [] = 1
  whole (here ∷ later) = sum_over (onward 0 later) here

-- ---- the two agree
module _ {A : Type 0} where
  pub sum-append : (f : A → ℕ) (xs ys : List A) → sum_over f (xs ++ ys) ≡ sum_over f xs + sum_over f ys
  unfolding sum_over
  sum-append f [] ys = sym (zero-add _)
  sum-append f (x ∷ xs) ys = ap (λ (z : ℕ). f x + z) (sum-append f xs ys) ∙ sym (add_assoc (f x) _ _)

  pub sum_same : (f g : A → ℕ) (xs : List A) → ((x : A) → f x ≡ g x) → sum_over f xs ≡ sum_over g xs
  unfolding sum_over
  sum_same f g [] h = refl
  sum_same f g (x ∷ xs) h = ap₂ ◌+◌ (h x) (sum_same f g xs h)

  pub sum-scale : (c : ℕ) (f : A → ℕ) (xs : List A) → sum_over (λ x. c * f x) xs ≡ c * sum_over f xs
  unfolding sum_over
  sum-scale c f [] = sym (mul-zero c)
  sum-scale c f (x ∷ xs) = ap (λ (z : ℕ). c * f x + z) (sum-scale c f xs) ∙ sym (mul-add c (f x) (sum_over f xs))

pub sum-map : {A B : Type 0} (g : A → B) (f : B → ℕ) (xs : List A) → sum_over f (map g xs) ≡ sum_over (λ x. f (g x)) xs
unfolding sum_over
sum-map g f [] = refl
sum-map g f (x ∷ xs) = ap (λ (z : ℕ). f (g x) + z) (sum-map g f xs)

pub sum-each : (f : List ℕ → ℕ) (heads : List ℕ) (tails : List (List ℕ)) → sum_over f (each_before heads tails) ≡ sum_over (λ y. sum_over (λ s. f (y ∷ s)) tails) heads
unfolding sum_over each_before
sum-each f [] tails = refl
sum-each f (y ∷ heads) tails = sum-append f (map (y ∷◌) tails) (each_before heads tails) ∙ ap₂ ◌+◌ (sum-map (y ∷◌) f tails) (sum-each f heads tails)

module _ (place pair : ℕ → ℕ → ℕ) where
  pub onward-states : (i : ℕ) (later : List (List ℕ)) (x : ℕ) → sum_over (λ s. weight_from place pair i (x ∷ s)) (listing later) ≡ onward place pair i later x
  unfolding sum_over listing weight_from onward
  onward-states i [] x = add-zero _
  onward-states i (next ∷ later) x =
      sum-each (λ s. weight_from place pair i (x ∷ s)) next (listing later)
      ∙ sum_same _ (λ y. place i x * (pair x y * onward place pair (suc i) later y)) next
      (λ y. sum-scale (place i x) (λ s. pair x y * weight_from place pair (suc i) (y ∷ s)) (listing later)
      ∙ ap (λ (z : ℕ). place i x * z) (sum-scale (pair x y) (λ s. weight_from place pair (suc i) (y ∷ s)) (listing later) ∙ ap (λ (z : ℕ). pair x y * z) (onward-states (suc i) later y)))
      ∙ sum-scale (place i x) (λ y. pair x y * onward place pair (suc i) later y) next

  pub whole-states : (options : List (List ℕ)) → sum_of_states place pair options ≡ whole place pair options
  unfolding sum_over listing weight_from sum_of_states whole
  whole-states [] = add-zero _
  whole-states (here ∷ later) = sum-each (weight_from place pair 0) here (listing later) ∙ sum_same _ (onward place pair 0 later) here (onward-states 0 later)
