-- What the functions of the search for rings say to one another.
use Rattle.std.specs.Prelude.{◌≡◌, cond, ◌||◌, List, ℕ, eqb, get_or, Float}
use Rattle.std.specs.Float.{binary64, nan}
use Rattle.std.specs.Float.Ieee.{add, sub}
use Rattle.doubles.specs.Decimal as Decimal
use Rattle.model.specs.Model.{Model}
use Rattle.model.specs.Ring.{ring_from}

-- a sum with the bond from the last to the first occupant, where both places are occupied
abbrev pub closed_in : (ℕ → ℕ → Float) → ℕ → ℕ → Float → Float
closed_in bond first last sum = cond (eqb first 0 || eqb last 0) sum (add binary64 sum (bond last first))

-- the energy of a first occupant's entry
abbrev pub first_entry : List Float → List Float → ℕ → Float
first_entry scaffold_bonds potentials strand =
    cond (eqb strand 0) Decimal.zero (sub binary64 (add binary64 Decimal.zero (get_or scaffold_bonds strand nan)) (get_or potentials strand nan))

-- configuration and energy are those of the model's search with one first occupant
pub record FoundFrom (m : Model) (first : ℕ) (configuration : List ℕ) (energy : Float) : Type 0 where
  pub shown : configuration ≡ (ring_from m first).configuration
  pub least : energy ≡ (ring_from m first).energy
