-- What is found among the states that begin with given occupants.
use Rattle.std.specs.Prelude.{◌≡◌, Bool, cond, List, [], ◌∷◌, ◌++◌, ℕ, take, drop, Option, None, Some, Float}
use Rattle.std.specs.Float.Ieee.{le}
use Rattle.model.specs.Model.{Model, options}
use Rattle.model.specs.States.{listing}
use Rattle.prepared.specs.inner.Sums.{energy_on}

-- a state is under the ceiling, by the places from a position on, after an occupant to their left and the sum up to its scaffold bond
unfoldable pub under_on : Model → Float → ℕ → ℕ → Float → List ℕ → Bool
unfolding energy_on
under_on m ceiling i left sum s = le (energy_on m i left sum s) ceiling

-- the first of a list that passes a test
unfoldable pub first_passing : (List ℕ → Bool) → List (List ℕ) → Option (List ℕ)
first_passing p [] = None
first_passing p (s ∷ ss) = cond (p s) (Some s) (first_passing p ss)

-- what is told of the places from a position on, by the first that passes: its energy, and its places are written; or nothing, and nothing is written
abbrev pub Told : Model → ℕ → ℕ → Float → List ℕ → List ℕ → Option Float → Option (List ℕ) → Type 0
Told m i left sum before after r None = (r ≡ None) × (after ≡ before)
Told m i left sum before after r (Some s) = (r ≡ Some (energy_on m i left sum s)) × (after ≡ take i before ++ s)

-- by the first of the listing of those places that is under the ceiling
abbrev pub UnderFrom : Model → Float → ℕ → ℕ → Float → List ℕ → List ℕ → Option Float → Type 0
UnderFrom m ceiling i left sum before after r = Told m i left sum before after r (first_passing (under_on m ceiling i left sum) (listing (drop i (options m))))
