-- The sum that the pass gives over weights: their exponents moved up by a bias, so that none is negative, and moved back at the end. The bias of document
-- 02's weights is 400,000; it stays a variable here, so that no power of two of that size is worked out. It needs no trust: proofs/Summed.antt.
use Rattle.std.specs.Prelude.{Bool, ◌||◌, ℕ, zero, suc, ◌+◌, ◌-◌, ◌*◌, ◌^◌, eqb, ℤ, pos, negsuc, length, get_or}
use Rattle.std.proofs.Math.Bool.{cond}
use mathlib.Core.List.{List, [], ◌∷◌}
use Rattle.std.proofs.Math.IntN.{sub_ℕ}
use Rattle.fractions.specs.declared.Weight.{Weight}
use Rattle.fractions.specs.Weight.{weight, unit}
use Rattle.lists.specs.Find.{any}
use Rattle.model.specs.Model.{Model, options}
use Rattle.partition.specs.declared.Term.{Term}
use Rattle.partition.specs.Terms.{term}
use Rattle.partition.specs.Pass.{sum_terms, passed_whole, before, through, allowed, none_left}
use Rattle.partition.specs.Sum.{zero_weight}
use Rattle.partition.specs.Weights.{Weights, place_weight, pair_weight}

-- an exponent, higher by the bias
abbrev pub lifted : ℕ → ℤ → ℕ
lifted bias (pos k) = bias + k
lifted bias (negsuc k) = bias - suc k

-- a weight as a term
abbrev pub lifted_term : ℕ → Weight → Term
lifted_term bias w = term w.digits (lifted bias w.power)

-- 1 as a term: 2^30 2^-30
abbrev pub one_term : ℕ → Term
one_term bias = term (2 ^ 30) (bias - 30)

-- 1 for an empty place
abbrev pub factor_term : ℕ → Bool → Weight → Term
factor_term bias empty w = cond empty (one_term bias) (lifted_term bias w)

-- a term of so many factors as a weight: each of them was moved up
abbrev pub lowered : ℕ → ℕ → Term → Weight
lowered bias factors t = weight t.digits (sub_ℕ t.power (bias * factors))

-- a state of n positions has n factors of places and n - 1 of pairs
abbrev pub factors : ℕ → ℕ
factors zero = 0
factors (suc n) = n + suc n

module _ (bias : ℕ) (place pair : ℕ → ℕ → Weight) where
  -- the factor of a place
  abbrev pub place_term : ℕ → ℕ → Term
  place_term i x = factor_term bias (eqb x 0) (place i x)

  -- the factor of a pair
  abbrev pub pair_term : ℕ → ℕ → Term
  pair_term x y = factor_term bias (eqb x 0 || eqb y 0) (pair x y)

  -- over options of which no position lacks one; no position at all has one state, whose product is 1
  unfoldable pub passed_sum : List (List ℕ) → Weight
  unfolding passed_whole
  passed_sum [] = unit
  passed_sum (here ∷ later) = lowered bias (factors (suc (length later))) (passed_whole place_term pair_term here later)

  -- zero where some position has no option
  unfoldable pub summed : List (List ℕ) → Weight
  unfolding none_left passed_sum
  summed options = cond (none_left options) zero_weight (passed_sum options)

  -- the sum over the states that have an occupant at a position, as it comes from both ends: a product more, with the start
  abbrev pub through_term : List (List ℕ) → ℕ → ℕ → Term
  through_term options = through place_term pair_term (one_term bias) options

  -- a sum of these as a weight
  abbrev pub lowered_at : List (List ℕ) → Term → Weight
  lowered_at options t = lowered bias (length options + length options) t

  -- over all occupants of the position, which is the sum over all states
  unfoldable pub summed_at : List (List ℕ) → ℕ → Weight
  unfolding before
  summed_at options i = lowered_at options (sum_terms (through_term options i) (get_or options i []))

  -- of one; of what is no option there it is zero
  unfoldable pub occupant_sum : List (List ℕ) → ℕ → ℕ → Weight
  unfolding before any
  occupant_sum options i x = cond (any (eqb x) (get_or options i [])) (lowered_at options (through_term options i x)) zero_weight

-- ---- of a model and lent weights

-- over any options
abbrev pub sum_of_weights : Weights → List (List ℕ) → Weight
sum_of_weights w = summed 400000 (place_weight w) (pair_weight w)

-- the free sum's figure
abbrev pub free_figure : Model → Weights → Weight
free_figure m w = sum_of_weights w (options m)

-- the constrained sum's figure
abbrev pub constrained_figure : Model → Weights → List (List ℕ) → Weight
constrained_figure m w lists = sum_of_weights w (allowed lists (options m))

-- the sum over all states by the occupants of a position
abbrev pub sum_at : Weights → List (List ℕ) → ℕ → Weight
sum_at w = summed_at 400000 (place_weight w) (pair_weight w)

-- and that over the states that have one of them there
abbrev pub occupant_sum_at : Weights → List (List ℕ) → ℕ → ℕ → Weight
occupant_sum_at w = occupant_sum 400000 (place_weight w) (pair_weight w)
