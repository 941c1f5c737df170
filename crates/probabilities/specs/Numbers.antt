-- Document 02's sums over the weights of a model's own energies, and the probability of a constrained set: what they are exactly, and how near the
-- figures lie. A place's weight is the exponential of minus the rounded difference of scaffold bond and potential, a pair's that of minus the strand
-- bond. The sums are those of partition/specs/Sum.antt, over numbers that fractions close in on.
use Rattle.std.specs.Prelude.{cond, ◌||◌, ℕ, suc, eqb, Float}
use mathlib.Core.List.{List, [], ◌∷◌}
use Rattle.std.specs.Float.{binary64}
use Rattle.std.specs.Float.Ieee.{neg, sub, lt}
use Rattle.std.specs.Float.Ieee.Positive.{num, den}
use Rattle.lists.specs.Build.{keep}
use Rattle.fractions.specs.Frac.{one, none}
use Rattle.fractions.specs.Number.{Number, exactly, sum_of, product_of, quotient_of}
use Rattle.fractions.specs.declared.Weight.{Weight}
use Rattle.exponential.specs.Exponential.{exponential}
use Rattle.exponential.specs.Near.{zero_float}
use Rattle.model.specs.Model.{Model}
use Rattle.model.specs.States.{states}
use Rattle.partition.specs.Constraint.{meets}
use Rattle.partition.specs.Sum.{SumAnswered}

-- ---- sums over states of products of numbers

module _ (place pair : ℕ → ℕ → Number) where
  -- an empty place has the factor 1
  abbrev pub number_place : ℕ → ℕ → Number
  number_place i x = cond (eqb x 0) (exactly one) (place i x)

  -- and so has a pair with one
  abbrev pub number_pair : ℕ → ℕ → Number
  number_pair x y = cond (eqb x 0 || eqb y 0) (exactly one) (pair x y)

  -- the product of the factors of a state's places from a position on, and of their neighbouring pairs
  unfoldable pub number_from : ℕ → List ℕ → Number
  number_from i [] = exactly one
  number_from i (x ∷ []) = number_place i x
  number_from i (x ∷ y ∷ s) = product_of (number_place i x) (product_of (number_pair x y) (number_from (suc i) (y ∷ s)))

  -- the sum over several states
  unfoldable pub number_sum : List (List ℕ) → Number
  unfolding number_from
  number_sum [] = exactly none
  number_sum (s ∷ several) = sum_of (number_from 0 s) (number_sum several)

-- ---- over the energies of a model

-- minus the rounded difference of scaffold bond and potential
abbrev pub place_argument : Model → ℕ → ℕ → Float
place_argument m i x = neg (sub binary64 (m.site i x) (m.potential x))

-- minus the strand bond
abbrev pub pair_argument : Model → ℕ → ℕ → Float
pair_argument m x y = neg (m.pair x y)

-- the exact exponential of a double
abbrev pub exp_of : Float → Number
exp_of x = exponential (lt x zero_float) (num x) (den x)

-- the exact sum over several states
abbrev pub exact_sum : Model → List (List ℕ) → Number
exact_sum m several = number_sum (λ i x. exp_of (place_argument m i x)) (λ x y. exp_of (pair_argument m x y)) several

-- ---- what is answered; arguments are at most 80,000 in size, so that all bounds are fractions from n = 80,001 on

-- within one part in 2^14 of the exact sum over these states, and zero exactly if there is none
abbrev pub EnergySum : Model → List (List ℕ) → Weight → Type 0
EnergySum m several w = SumAnswered 14 80001 several (exact_sum m several) w

-- document 02's free sum of a design's own energies
abbrev pub FreeEnergySum : Model → Weight → Type 0
FreeEnergySum m w = EnergySum m (states m) w

-- and its constrained sum
abbrev pub ConstrainedEnergySum : Model → List (List ℕ) → Weight → Type 0
ConstrainedEnergySum m lists w = EnergySum m (keep (meets lists) (states m)) w

-- The probability of the states that meet a constraint: within one part in 2^12 of constrained by free, and zero exactly if none does.
abbrev pub Probability : Model → List (List ℕ) → Weight → Type 0
Probability m lists w =
    SumAnswered 12 80001 (keep (meets lists) (states m)) (quotient_of (exact_sum m (keep (meets lists) (states m))) (exact_sum m (states m))) w
