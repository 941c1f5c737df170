-- The cells that states and the search read are a model's. No other cell need be filled.
use Rattle.std.specs.Prelude.{◌≡◌, List, ℕ, ◌+◌, ◌*◌, ◌<◌, get_or, Float}
use Rattle.std.specs.Float.{nan}
use Rattle.model.specs.Model.{Model}
use Rattle.ensemble.specs.declared.bonds.Bonds.{Bonds}
use Rattle.ensemble.specs.Layout.{BondCells}

-- what a search reads, and the strand bond of each strand with an empty place to its right
pub record StateCells (m : Model) (strands : ℕ) (strand_bonds scaffold_bonds potentials : List Float) : Type 0 where
  pub searched : BondCells m strands strand_bonds scaffold_bonds potentials
  pub empties : (x : ℕ) → x < strands → get_or strand_bonds (x * strands + 0) nan ≡ m.pair x 0

-- of bonds that are lent together
abbrev pub StateBonds : Model → Bonds → Type 0
StateBonds m bonds = StateCells m bonds.strand_bonds.strands bonds.strand_bonds.cells.now bonds.scaffold_bonds.now bonds.potentials.now
