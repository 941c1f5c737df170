-- Document 02's first state under a ceiling: in the order of the listing, the first whose state energy is at most the ceiling.
use Rattle.std.specs.Prelude.{Bool, true, false, not, List, ℕ, Float}
use Rattle.std.specs.Float.{nan, inf, fin}
use Rattle.std.specs.Float.Ieee.{le}
use Rattle.lists.specs.Find.{any, first_index}
use Rattle.model.specs.Model.{Model}
use Rattle.model.specs.States.{states, state_at}
use Rattle.model.specs.Energy.{state_energy}

-- a state's energy is at most the ceiling, compared as doubles: a ceiling of −0.0 admits 0.0
abbrev pub is_under : Model → Float → List ℕ → Bool
is_under m ceiling s = le (state_energy m s) ceiling

-- the rank of the first such state, and the number of states where there is none
unfoldable pub first_under : Model → Float → ℕ
unfolding first_index
first_under m ceiling = first_index (is_under m ceiling) (states m)

-- that state
abbrev pub state_under : Model → Float → List ℕ
state_under m ceiling = state_at m (first_under m ceiling)

-- no state is under the ceiling
unfoldable pub none_under : Model → Float → Bool
unfolding any
none_under m ceiling = not (any (is_under m ceiling) (states m))

-- neither an infinity nor a NaN
abbrev pub finite : Float → Bool
finite nan = false
finite (inf negative) = false
finite (fin negative digits exponent) = true
