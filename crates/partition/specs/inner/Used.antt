-- Weights and terms in form, and what holds of all that the states of some options use.
use Rattle.std.specs.Prelude.{◌≡◌, ℕ, suc, ◌*◌, ◌≤◌, ℤ, pos, negsuc}
use mathlib.Core.List.{List, [], ◌∷◌, Memᴰ}
use Rattle.fractions.specs.declared.Weight.{Weight}
use Rattle.fractions.specs.Weight.{InForm}
use Rattle.partition.specs.declared.Term.{Term}
use Rattle.partition.specs.Terms.{Normal}
use Rattle.partition.specs.Weights.{Weights, place_weight, pair_weight}
use Rattle.partition.specs.Summed.{lifted}

-- an exponent is no lower than minus the bias
abbrev pub Reaches : ℕ → ℤ → Type 0
Reaches bias (pos k) = Unit
Reaches bias (negsuc k) = suc k ≤ bias

-- a weight has 31 digits, and an exponent from minus the bias to the bias
pub record Weighs (bias : ℕ) (w : Weight) : Type 0 where
  pub form : InForm w
  pub reaches : Reaches bias w.power
  pub low : lifted bias w.power ≤ 2 * bias

-- a term has 31 digits, and a power that is not above a bound
pub record Fit (most : ℕ) (t : Term) : Type 0 where
  pub form : Normal t
  pub low : t.power ≤ most

-- the weight of a strand at a position is in form, or the place is empty
abbrev pub PlaceFit : ℕ → (ℕ → ℕ → Weight) → ℕ → ℕ → Type 0
PlaceFit bias place i x = (x ≡ 0 → ⊥) → Weighs bias (place i x)

-- the weight of a pair is in form, or one of its places is empty
abbrev pub PairFit : ℕ → (ℕ → ℕ → Weight) → ℕ → ℕ → Type 0
PairFit bias pair x y = (x ≡ 0 → ⊥) → (y ≡ 0 → ⊥) → Weighs bias (pair x y)

-- what holds of each option of the positions from the i-th on, and of each two of neighbouring positions
abbrev pub Used : (ℕ → ℕ → Type 0) → (ℕ → ℕ → Type 0) → ℕ → List (List ℕ) → Type 0
Used Place Pair i [] = Unit
Used Place Pair i (here ∷ []) = (x : ℕ) → Memᴰ x here → Place i x
Used Place Pair i (here ∷ next ∷ later) =
    ((x : ℕ) → Memᴰ x here → Place i x) × ((x y : ℕ) → Memᴰ x here → Memᴰ y next → Pair x y) × Used Place Pair (suc i) (next ∷ later)

-- of lent weights, with document 02's exponents
abbrev pub InUse : Weights → ℕ → List (List ℕ) → Type 0
InUse w i options = Used (PlaceFit 400000 (place_weight w)) (PairFit 400000 (pair_weight w)) i options
