-- How far the two energies of a configuration can part, in kcal/mol and both rounded as they are: the state energy, and RT times the chain energy.
use Rattle.std.specs.Prelude.{List, ℕ}
use Rattle.std.specs.Float.{binary64}
use Rattle.doubles.specs.Near.{two_to_minus, Near}
use Rattle.model.specs.Model.{State}
use Rattle.model.specs.Energy.{state_energy, chain_product}
use Rattle.model.specs.TwoEnergies.{NullBonds}
use Rattle.design.specs.Design.{Design, strands, model_of}
use Rattle.design.specs.Checks.{Admitted}
use Rattle.design.specs.Answers.{state_energy_answer, chain_energy_answer}
use Rattle.design.specs.Laws.{Doubles}

-- of an admitted design, over its own bonds
pub record DesignNear (d : Design) : Type 0 where
  -- a strand bond with an empty place is a zero: strand 0 has no glue, and row and column 0 of the tables are zeros
  pub null : NullBonds (model_of d) (strands d)
  -- the state energy of every state lies within 2⁻¹⁶ of RT times its chain energy
  pub states : (s : List ℕ) → State (model_of d) s → Near binary64 (two_to_minus binary64 16) (state_energy (model_of d) s) (chain_product (model_of d) s)

-- of every admitted design
abbrev pub AdmittedNear : Type 0
AdmittedNear = (d : Design) → Doubles d → Admitted d → DesignNear d

-- what the two calls answer to one configuration, to whatever is sent: both refuse with 0.0, or both answer
abbrev pub FiguresNear : Type 0
FiguresNear = (d : Design) → Doubles d → (s : List ℕ) → Near binary64 (two_to_minus binary64 16) (state_energy_answer d s).figure (chain_energy_answer d s).figure.times_rt
