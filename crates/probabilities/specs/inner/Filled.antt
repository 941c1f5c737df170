-- Tables of weights that are worked out of a design's energies, row first, as wide as there are strands; digits and exponents apart.
use Rattle.std.specs.Prelude.{List, ℕ, ◌*◌, ◌/◌, ◌%◌, ◌<◌, ℤ}
use Rattle.model.specs.Model.{Friend}
use Rattle.design.specs.Design.{Design, positions, strands, model_of}
use Rattle.partition.specs.Weights.{weight_at}
use Rattle.probabilities.specs.Numbers.{place_argument, pair_argument}
use Rattle.probabilities.specs.Weighed.{NearExp}

-- the weight of each friend at its position is near the exponential of its argument
abbrev pub PlacesFilled : Design → List ℕ → List ℤ → Type 0
PlacesFilled d digits powers =
    (cell : ℕ)
    → cell < positions d * strands d
    → Friend (model_of d) (cell / strands d) (cell % strands d)
    → NearExp (place_argument (model_of d) (cell / strands d) (cell % strands d)) (weight_at digits powers cell)

-- and that of each two strands
abbrev pub PairsFilled : Design → List ℕ → List ℤ → Type 0
PairsFilled d digits powers =
    (cell : ℕ) → cell < strands d * strands d → NearExp (pair_argument (model_of d) (cell / strands d) (cell % strands d)) (weight_at digits powers cell)
