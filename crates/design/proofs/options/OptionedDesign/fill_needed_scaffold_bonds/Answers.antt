use Prim.Native.Nat.{◌-◌}
use native.Mathlib.Omega.{arith}
use lib.ListN.{get_or}
use Rattle.std.proofs.Common.{rules}
use Rattle.design.specs.Design.{scaffold_bond_in}
use Rattle.design.proofs.Held.{sites-more}
use Rattle.design.proofs.options.OptionedDesign.fill_needed_scaffold_bonds.Goals as goal

pub loop-position-preserved : goal.loop-position-preserved
loop-position-preserved c =
    let bond = scaffold_bond_in c.args.self.now.design.now in
    let searchable = rw (c.args.self.now.same_strands) at c.args.self.now.options.searchable in
    let counts = c.args.self.now.options.counts.now in
    let i = c.loop-position.position in
    let some = searchable.some i c.loop-position-test.true in
    let filled = rw (c.strands-strands.ensures, c.friends.ensures.row) at (c.fill_cells.ensures bond (λ strand answer k answers. search rules)) in
    sites-more bond searchable filled.0 i c.loop-position-test.true (get_or counts i 0 - 1) (omega arith) filled.1 c.loop-position.invariant
