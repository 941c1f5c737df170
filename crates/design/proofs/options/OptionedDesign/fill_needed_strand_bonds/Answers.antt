use mathlib.Core.Path.{◌≡◌, refl}
use Prim.Native.Nat.{◌+◌, ◌-◌}
use native.Mathlib.Omega.{arith}
use lib.ListN.{get_or}
use Rattle.design.specs.Design.{strand_bond_in}
use Rattle.design.proofs.Held.{pairs-next}
use Rattle.design.proofs.options.OptionedDesign.fill_needed_strand_bonds.Goals as goal

pub loop-right-preserved : goal.loop-right-preserved
loop-right-preserved c =
    let bond = strand_bond_in c.args.self.now.design.now in
    let searchable = rw (c.args.self.now.same_strands) at c.args.self.now.options.searchable in
    let counts = c.args.self.now.options.counts.now in
    let right = c.loop-right.right in
    let some = searchable.some right c.loop-right-test.true in
    let pairs = rw (c.of.ensures.row, c.friends.ensures.row) at c.fill_neighbours.ensures.by_index in
    let back : right + 1 - 1 ≡ right = omega arith in
    rw back (pairs-next bond searchable c.fill_neighbours.ensures.kept (right - 1) right (omega arith) c.loop-right-test.true (get_or counts (right - 1) 0) (get_or counts right 0 - 1) refl (omega arith) pairs c.loop-right.invariant)
