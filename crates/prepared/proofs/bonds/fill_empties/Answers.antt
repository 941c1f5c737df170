use native.Mathlib.Nat.{not-suc-le-zero}
use Rattle.design.proofs.Held.{kept-none}
use Rattle.design.specs.Design.{strand_bond_in, strands}
use Rattle.prepared.proofs.Cells.{empties-more}
use Rattle.prepared.proofs.bonds.fill_empties.Goals as goal

pub loop-x-init : goal.loop-x-init
loop-x-init c = (kept-none (strand_bond_in c.args.design.now) (strands c.args.design.now), λ y h. absurd (not-suc-le-zero h))

pub loop-x-preserved : goal.loop-x-preserved
loop-x-preserved c =
    let d = c.args.design.now in
    let here = rw c.strands-strands.ensures at c.loop-x-test.true in
    rw c.strands-strands.ensures (empties-more (strand_bond_in d) (strands d) c.loop-x.x here c.requires.strands_in_bounds c.strand_bond.ensures c.loop-x.invariant.0 c.loop-x.invariant.1)
