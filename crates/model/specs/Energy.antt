-- Both energies of a configuration, each the left-to-right sum of a list of terms, and the walk through all states.
-- Subtracting a double is adding it with its sign turned: `lib.Ieee` defines `sub` so.
use Rattle.std.specs.Prelude.{cond, List, [], ◌∷◌, ◌++◌, ℕ, zero, suc, eqb, drop, Float}
use Rattle.std.proofs.Math.Option.{Option, none, some}
use Rattle.std.specs.Float.{binary64}
use Rattle.std.specs.Float.Ieee.{neg, mul, lt}
use Rattle.lists.specs.Fold.{foldl}
use Rattle.doubles.specs.Decimal as Decimal
use Rattle.doubles.specs.Sum.{sum_from}
use Rattle.model.specs.Model.{Model, occupant}
use Rattle.model.specs.States.{states, state_at}

-- an empty place adds no term
abbrev pub if_occupied : ℕ → List Float → List Float
if_occupied strand terms = cond (eqb strand 0) [] terms

-- ---- state energy: for each nonempty place the scaffold bond, the strand bond to the right neighbour if there is one (0 included),
-- ---- and less the potential

-- the strand bond to the right neighbour, where there is one
abbrev pub to_right : Model → ℕ → List ℕ → List Float
to_right m strand [] = []
to_right m strand (right ∷ _) = m.pair strand right ∷ []

-- the terms of the place at a position, with what stands to its right
abbrev pub state_place : Model → ℕ → ℕ → List ℕ → List Float
state_place m i strand right = if_occupied strand (m.site i strand ∷ to_right m strand right ++ neg (m.potential strand) ∷ [])

-- the terms of the places from a position on
unfoldable pub state_terms : Model → ℕ → List ℕ → List Float
state_terms m i [] = []
state_terms m i (strand ∷ right) = state_place m i strand right ++ state_terms m (suc i) right

-- Document 01's state energy, the Rust's `g_system`: at the end times RT.
unfoldable pub state_energy : Model → List ℕ → Float
unfolding sum_from state_terms
state_energy m s = mul binary64 (sum_from Decimal.zero (state_terms m 0 s)) m.rt

-- ---- chain energy: for each nonempty place the strand bond from the left occupant (0 included, none at position 0), the scaffold
-- ---- bond, and less the potential

-- what stands to the left of a position
abbrev pub left_of : List ℕ → ℕ → Option ℕ
left_of s zero = none
left_of s (suc i) = some (occupant s i)

-- the strand bond from the left occupant, where there is one
abbrev pub from_left : Model → Option ℕ → ℕ → List Float
from_left m none strand = []
from_left m (some left) strand = m.pair left strand ∷ []

-- the terms of the place at a position, with what stands to its left
abbrev pub chain_place : Model → ℕ → Option ℕ → ℕ → List Float
chain_place m i left strand = if_occupied strand (from_left m left strand ++ m.site i strand ∷ neg (m.potential strand) ∷ [])

-- the terms of the places from a position on
unfoldable pub chain_terms : Model → ℕ → Option ℕ → List ℕ → List Float
chain_terms m i left [] = []
chain_terms m i left (strand ∷ right) = chain_place m i left strand ++ chain_terms m (suc i) (some strand) right

-- Document 01's chain energy, from 0.0.
unfoldable pub chain_energy : Model → List ℕ → Float
unfolding sum_from chain_terms
chain_energy m s = sum_from Decimal.zero (chain_terms m 0 none s)

-- RT times the chain energy: what the search and the walk compare
unfoldable pub chain_product : Model → List ℕ → Float
unfolding chain_energy
chain_product m s = mul binary64 (chain_energy m s) m.rt

-- ---- the walk

-- the least so far, or a state's energy where that is smaller
abbrev pub lesser : (List ℕ → Float) → Float → List ℕ → Float
lesser energy least s = cond (lt (energy s) least) (energy s) least

-- Document 01's walk: from the state of rank 0 through each next one in the listing's order, keeping the least product.
unfoldable pub walk : Model → Float
unfolding foldl chain_product
walk m = foldl (lesser (chain_product m)) (chain_product m (state_at m 0)) (drop 1 (states m))
