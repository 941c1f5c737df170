-- Options and bonds that are lent together are a model's. A spec of their own, since the declared types of options and bonds rest on Layout.antt.
use Rattle.model.specs.Model.{Model}
use Rattle.ensemble.specs.declared.lent.LentModel.{LentModel}
use Rattle.ensemble.specs.Layout.{OptionRows, BondCells}

-- the options are the model's, and the bonds that these read
pub record Lends (m : Model) (lent : LentModel) : Type 0 where
  pub options : OptionRows m lent.options.rows.now lent.options.counts.now
  pub bonds : BondCells m lent.options.strands lent.bonds.strand_bonds.cells.now lent.bonds.scaffold_bonds.now lent.bonds.potentials.now
