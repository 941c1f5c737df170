-- Weights that are worked out of a model's energies: each that a state uses is near the exponential of its argument.
use Rattle.std.specs.Prelude.{true, ◌≡◌, ℕ, Float}
use Rattle.fractions.specs.declared.Weight.{Weight}
use Rattle.exponential.specs.Near.{ExpOf, has_exponential}
use Rattle.model.specs.Model.{Model, options}
use Rattle.partition.specs.Weights.{Weights, place_weight, pair_weight}
use Rattle.partition.specs.inner.Used.{Used}
use Rattle.probabilities.specs.Numbers.{place_argument, pair_argument}

-- the argument is one that has an exponential, and the weight is near it
abbrev pub NearExp : Float → Weight → Type 0
NearExp x w = (has_exponential x ≡ true) × ExpOf x w

-- of a place, or it is empty
abbrev pub PlaceNear : Model → Weights → ℕ → ℕ → Type 0
PlaceNear m w i x = (x ≡ 0 → ⊥) → NearExp (place_argument m i x) (place_weight w i x)

-- of a pair, or one of its places is empty
abbrev pub PairNear : Model → Weights → ℕ → ℕ → Type 0
PairNear m w x y = (x ≡ 0 → ⊥) → (y ≡ 0 → ⊥) → NearExp (pair_argument m x y) (pair_weight w x y)

-- of all that the states of the model use
abbrev pub WeightsNear : Model → Weights → Type 0
WeightsNear m w = Used (PlaceNear m w) (PairNear m w) 0 (options m)
