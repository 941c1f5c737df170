-- The invariant: the bonds of the neighbours passed hold. Assumes nothing.
use Prim.Native.Nat.{◌-◌}
use Rattle.design.specs.Design.{strand_bond_in, strands}
use Rattle.design.specs.Filling.{PairsHeld}
use Rattle.design.proofs.options.OptionedDesign.fill_needed_strand_bonds.Given as goal

abbrev pub invariant-loop-right : goal.invariant-loop-right
invariant-loop-right l = PairsHeld (strand_bond_in l.self.design.now) (strands l.self.design.now) l.cells l.self.options.rows.now l.self.options.counts.now (l.right - 1)
