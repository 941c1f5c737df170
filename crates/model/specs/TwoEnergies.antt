-- How far the two energies of a state can part. Both add the same terms, in different orders, and each addition is rounded; a bond with an empty
-- place is in one sum and not in the other, so it is to be zero. proofs/TwoEnergies.antt shows it of every model within the bounds.
use Rattle.std.specs.Prelude.{◌≡◌, true, List, ℕ, ◌<◌}
use Rattle.std.specs.Float.{binary64}
use Rattle.std.specs.Float.Ieee.{eq}
use Rattle.doubles.specs.Decimal.{zero}
use Rattle.doubles.specs.Near.{two_to_minus, AtMost, Near}
use Rattle.model.specs.Model.{Model, State}
use Rattle.model.specs.Energy.{state_energy, chain_product}
use Rattle.model.specs.Bounds.{Bounded}
use Rattle.model.specs.Search.{search}

-- a strand bond with an empty place is a zero, of either sign
pub record NullBonds (m : Model) (strands : ℕ) : Type 0 where
  pub from_empty : (strand : ℕ) → strand < strands → eq (m.pair 0 strand) zero ≡ true
  pub to_empty : (strand : ℕ) → strand < strands → eq (m.pair strand 0) zero ≡ true

-- both energies as they are rounded
pub record EnergiesNear (m : Model) : Type 0 where
  -- the state energy of every state lies within 2⁻¹⁶ of RT times its chain energy
  pub each : (s : List ℕ) → State m s → Near binary64 (two_to_minus binary64 16) (state_energy m s) (chain_product m s)
  -- the state energy of the configuration that the search gives exceeds that of no state by more than 2⁻¹⁵
  pub searched : (t : List ℕ) → State m t → AtMost binary64 (two_to_minus binary64 15) (state_energy m (search m).configuration) (state_energy m t)

-- of every model within the bounds whose bonds with an empty place are zeros
abbrev pub TwoEnergies : Type 0
TwoEnergies = (m : Model) (strands : ℕ) → Bounded m strands → NullBonds m strands → EnergiesNear m
