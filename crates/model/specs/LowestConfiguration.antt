-- What the search is to give, demand 3: proofs/Search.antt shows it of every model within the bounds.
use Rattle.std.specs.Prelude.{◌≡◌, true, List, [], ℕ, Float}
use Rattle.std.specs.Float.Ieee.{le, eq}
use Rattle.doubles.specs.Decimal.{zero}
use Rattle.model.specs.Model.{Model, State, positions}
use Rattle.model.specs.Energy as Energy
use Rattle.model.specs.Energy.{chain_product}

-- Demand 3, of a configuration and an energy: the main theorem `search-lowest` is that the search's are such.
pub record LowestConfiguration (m : Model) (s : List ℕ) (e : Float) : Type 0 where
  -- the energy is RT times the chain energy of the configuration shown, as data
  pub energy : e ≡ chain_product m s
  -- there is one place for each position, and each is empty or holds a friend there
  pub places : State m s
  -- it is at most RT times the chain energy of every state, compared as doubles; a NaN is at most nothing
  pub lowest : (t : List ℕ) → State m t → le e (chain_product m t) ≡ true
  -- the walk through all states ends with that same energy, compared as doubles
  pub walk : eq (Energy.walk m) e ≡ true
  -- no positions give the empty configuration and 0.0
  pub empty : positions m ≡ 0 → (s ≡ []) × (e ≡ zero)
