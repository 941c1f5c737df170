-- Document 02's rings: a scaffold whose last position stands beside its first. The ring energy of a configuration, the search for the lowest, and what
-- it is to give; proofs/Ring.antt shows that of every model within the bounds that has a position.
use Rattle.std.specs.Prelude.{◌≡◌, true, cond, ◌||◌, List, [], ◌∷◌, ℕ, zero, suc, ◌-◌, eqb, length, Float}
use Rattle.std.specs.Float.{binary64}
use Rattle.std.specs.Float.Ieee.{add, mul, le}
use Rattle.doubles.specs.Least.{pick, first_least}
use Rattle.model.specs.Model.{Model, State, positions, occupant}
use Rattle.model.specs.Energy.{chain_energy}
use Rattle.model.specs.Search.{SearchResult, search_over, options_at}

-- ---- the ring energy

-- a sum with the strand bond from the last to the first occupant, added once at its end where both places are occupied
abbrev pub closed : Model → ℕ → ℕ → Float → Float
closed m first last sum = cond (eqb first 0 || eqb last 0) sum (add binary64 sum (m.pair last first))

-- then times RT
abbrev pub closed_times_rt : Model → ℕ → ℕ → Float → Float
closed_times_rt m first last sum = mul binary64 (closed m first last sum) m.rt

-- the ring energy of a configuration: its chain energy, closed, times RT
unfoldable pub ring_energy : Model → List ℕ → Float
unfolding chain_energy
ring_energy m s = closed_times_rt m (occupant s 0) (occupant s (length s - 1)) (chain_energy m s)

-- ---- the search

-- position 0 has one option, the others have theirs
abbrev pub with_first : Model → ℕ → ℕ → List ℕ
with_first m first zero = first ∷ []
with_first m first (suc i) = options_at m (suc i)

-- the lowest with one first occupant: the chain's search, its tie rules included, whose last step closes the ring
unfoldable pub ring_from : Model → ℕ → SearchResult
unfolding search_over
ring_from m first = search_over m (with_first m first) (closed_times_rt m first) (positions m)

-- its energy
abbrev pub ring_least : Model → ℕ → Float
ring_least m first = (ring_from m first).energy

-- the first occupant that is kept: each friend of position 0 in order, then empty, is tried, and the first smallest kept
abbrev pub ring_first : Model → ℕ
ring_first m = first_least (ring_least m) (options_at m 0)

-- document 02's search
unfoldable pub ring_search : Model → SearchResult
unfolding ring_from pick
ring_search m = ring_from m (ring_first m)

-- ---- what it is to give

-- Demand 3 of a ring, of a configuration and an energy: the theorem `ring-lowest` is that the search's are such.
pub record LowestRing (m : Model) (s : List ℕ) (e : Float) : Type 0 where
  -- the energy is the ring energy of the configuration shown, as data
  pub energy : e ≡ ring_energy m s
  -- there is one place for each position, and each is empty or holds a friend there
  pub places : State m s
  -- it is at most the ring energy of every state, compared as doubles; a NaN is at most nothing
  pub lowest : (t : List ℕ) → State m t → le e (ring_energy m t) ≡ true
