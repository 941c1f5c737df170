-- The invariant: the bonds of the positions passed hold. Assumes nothing.
use Rattle.design.specs.Design.{scaffold_bond_in, strands}
use Rattle.design.specs.Filling.{SitesHeld}
use Rattle.design.proofs.options.OptionedDesign.fill_needed_scaffold_bonds.Given as goal

abbrev pub invariant-loop-position : goal.invariant-loop-position
invariant-loop-position l = SitesHeld (scaffold_bond_in l.self.design.now) (strands l.self.design.now) l.cells l.self.options.rows.now l.self.options.counts.now l.position
