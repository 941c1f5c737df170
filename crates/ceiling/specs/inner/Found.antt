-- What the search over a model says to the call.
use Rattle.std.specs.Prelude.{◌≡◌, true, false, List, ℕ, Option, None, Some, Float}
use Rattle.model.specs.Model.{Model}
use Rattle.model.specs.Energy.{state_energy}
use Rattle.ceiling.specs.Ceiling.{state_under, none_under}

-- the energy of the first state under the ceiling, which then stands in the lent entries; or nothing, where no state is, and the entries are kept
pub record FoundUnder (m : Model) (ceiling : Float) (before after : List ℕ) (r : Option Float) : Type 0 where
  pub some : none_under m ceiling ≡ false → (r ≡ Some (state_energy m (state_under m ceiling))) × (after ≡ state_under m ceiling)
  pub none : none_under m ceiling ≡ true → (r ≡ None) × (after ≡ before)
