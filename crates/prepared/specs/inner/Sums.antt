-- The state sum as it is built from the left. What follows an occupant's scaffold bond, the strand bond to the right and less the potential, is added
-- once the right occupant is known.
use Rattle.std.specs.Prelude.{◌≡◌, ◌⊎◌, cond, List, [], ◌∷◌, ℕ, suc, ◌+◌, ◌*◌, eqb, get_or, Float}
use Rattle.std.specs.Float.{binary64, nan}
use Rattle.std.specs.Float.Ieee.{add, sub, mul}
use Rattle.model.specs.Model.{Model, Friend}

-- the bond at [row][column], in cells of so many strands
abbrev pub cell_of : ℕ → List Float → ℕ → ℕ → Float
cell_of strands bonds row column = get_or bonds (row * strands + column) nan

-- with the right occupant known
abbrev pub joined_in : (ℕ → ℕ → Float) → (ℕ → Float) → ℕ → ℕ → Float → Float
joined_in bond potential left right sum = cond (eqb left 0) sum (sub binary64 (add binary64 sum (bond left right)) (potential left))

-- with an occupant's scaffold bond
abbrev pub begun_in : (ℕ → Float) → ℕ → Float → Float
begun_in site strand sum = cond (eqb strand 0) sum (add binary64 sum (site strand))

-- with nobody to the right
abbrev pub ended_in : (ℕ → Float) → ℕ → Float → Float
ended_in potential strand sum = cond (eqb strand 0) sum (sub binary64 sum (potential strand))

-- the sum up to the scaffold bond of an occupant
abbrev pub begun_at : Model → ℕ → ℕ → Float → ℕ → Float
begun_at m i left sum x = begun_in (m.site i) x (joined_in m.pair m.potential left x sum)

-- the state sum of the places from a position on, after an occupant to their left and the sum up to its scaffold bond
unfoldable pub sum_on : Model → ℕ → ℕ → Float → List ℕ → Float
sum_on m i left sum [] = ended_in m.potential left sum
sum_on m i left sum (x ∷ s) = sum_on m (suc i) x (begun_at m i left sum x) s

-- times RT
unfoldable pub energy_on : Model → ℕ → ℕ → Float → List ℕ → Float
unfolding sum_on
energy_on m i left sum s = mul binary64 (sum_on m i left sum s) m.rt

-- the occupant to the left of a position is empty, or a friend there
abbrev pub Beside : Model → ℕ → ℕ → Type 0
Beside m position left = (left ≡ 0) ⊎ ((p : ℕ) × (position ≡ p + 1) × Friend m p left)
