-- Sums that no double holds, worked out: one position with one friend, whose weight is far above or far below 1. proofs/Beyond.antt computes them.
use Rattle.std.specs.Prelude.{◌≡◌, false, List, [], ◌∷◌, ◌^◌, ℕ, ℤ, pos, negsuc}
use Rattle.std.specs.Float.{inf}
use Rattle.fractions.specs.Weight.{weight}
use Rattle.exponential.specs.Near.{zero_float}
use Rattle.partition.specs.Pass.{allowed}
use Rattle.partition.specs.Weights.{Weights}
use Rattle.partition.specs.Summed.{sum_of_weights}
use Rattle.probabilities.specs.Double.{nearest_double}

-- strand 1 weighs 2^30 times a power of two
abbrev pub lone : ℤ → Weights
lone power =
    record {
      strands = 2;
      place_digits = 0 ∷ 2 ^ 30 ∷ [];
      place_powers = pos 0 ∷ power ∷ [];
      pair_digits = 0 ∷ 0 ∷ 0 ∷ 0 ∷ [];
      pair_powers = pos 0 ∷ pos 0 ∷ pos 0 ∷ pos 0 ∷ [];
    }

-- it may stand there, or nothing
abbrev pub lone_options : List (List ℕ)
lone_options = (1 ∷ 0 ∷ []) ∷ []

-- A sum in doubles would be infinite, or 0.0 where a state is left: a sum of weights is neither.
pub record BeyondDoubles : Type 0 where
  pub large : sum_of_weights (lone (pos 5000)) lone_options ≡ weight (2 ^ 30) (pos 5000)
  pub large_double : nearest_double (weight (2 ^ 30) (pos 5000)) ≡ inf false
  -- of the states that have the friend
  pub small : sum_of_weights (lone (negsuc 4999)) (allowed ((1 ∷ []) ∷ []) lone_options) ≡ weight (2 ^ 30) (negsuc 4999)
  pub small_double : nearest_double (weight (2 ^ 30) (negsuc 4999)) ≡ zero_float
