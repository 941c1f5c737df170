-- Document 02's partition sums: over states, each the product of its factors. Weights are fractions here; which are lent is in Weights.antt, and
-- what a constraint allows in Constraint.antt.
use Rattle.std.specs.Prelude.{◌≡◌, cond, ◌||◌, ℕ, suc, eqb, pos}
use mathlib.Core.List.{List, [], ◌∷◌}
use Rattle.lists.specs.Build.{keep}
use Rattle.fractions.specs.Frac.{Frac, one, none, plus, times}
use Rattle.fractions.specs.Number.{Number, exactly, WithinPart}
use Rattle.fractions.specs.declared.Weight.{Weight}
use Rattle.fractions.specs.Weight.{weight, worth, InForm}
use Rattle.model.specs.Model.{Model}
use Rattle.model.specs.States.{states}
use Rattle.partition.specs.Constraint.{meets}

-- ---- the exact sum, over the weights of a position and a strand, and of a left and a right strand

module _ (place pair : ℕ → ℕ → Frac) where
  -- an empty place has the factor 1
  abbrev pub place_factor : ℕ → ℕ → Frac
  place_factor i x = cond (eqb x 0) one (place i x)

  -- and so has a pair with one
  abbrev pub pair_factor : ℕ → ℕ → Frac
  pair_factor x y = cond (eqb x 0 || eqb y 0) one (pair x y)

  -- the product of the factors of a state's places from a position on, and of their neighbouring pairs
  unfoldable pub product_from : ℕ → List ℕ → Frac
  product_from i [] = one
  product_from i (x ∷ []) = place_factor i x
  product_from i (x ∷ y ∷ s) = times (place_factor i x) (times (pair_factor x y) (product_from (suc i) (y ∷ s)))

  -- the sum over several states
  unfoldable pub sum_over : List (List ℕ) → Frac
  unfolding product_from
  sum_over [] = none
  sum_over (s ∷ several) = plus (product_from 0 s) (sum_over several)

-- ---- what is answered

-- zero, as it is answered
abbrev pub zero_weight : Weight
zero_weight = weight 0 (pos 0)

-- Zero where there is no state; else 31 digits and an exponent, worth a fraction within one part in 2^k of the sum. So it is zero exactly if there is
-- no state.
abbrev pub SumAnswered : ℕ → ℕ → List (List ℕ) → Number → Weight → Type 0
SumAnswered k from [] sum w = w ≡ zero_weight
SumAnswered k from (_ ∷ _) sum w = InForm w × WithinPart k from sum (worth w)

-- a weight is within one part in 2^15 of the exact sum over these states
abbrev pub SumWithin : (ℕ → ℕ → Frac) → (ℕ → ℕ → Frac) → List (List ℕ) → Weight → Type 0
SumWithin place pair several w = SumAnswered 15 0 several (exactly (sum_over place pair several)) w

-- document 02's free sum, over all states of a model
abbrev pub FreeSum : (ℕ → ℕ → Frac) → (ℕ → ℕ → Frac) → Model → Weight → Type 0
FreeSum place pair m w = SumWithin place pair (states m) w

-- document 02's constrained sum, over those that meet the constraint
abbrev pub ConstrainedSum : (ℕ → ℕ → Frac) → (ℕ → ℕ → Frac) → Model → List (List ℕ) → Weight → Type 0
ConstrainedSum place pair m lists w = SumWithin place pair (keep (meets lists) (states m)) w
