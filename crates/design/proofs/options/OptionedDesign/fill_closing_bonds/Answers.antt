-- The last position's options and the first's friends are neighbours. Assumes nothing.
use mathlib.Core.Path.{refl}
use Prim.Native.Nat.{◌-◌}
use native.Mathlib.Omega.{arith}
use lib.ListN.{length, get_or}
use Rattle.design.specs.Design.{strand_bond_in}
use Rattle.design.proofs.Held.{part-among, closing-held}
use Rattle.design.proofs.options.OptionedDesign.fill_closing_bonds.Goals as goal

pub fill_neighbours-requires-clause-among_2 : goal.fill_neighbours-requires-clause-among_2
fill_neighbours-requires-clause-among_2 c =
    let searchable = rw (c.args.self.now.same_strands) at c.args.self.now.options.searchable in
    rw c.friends.ensures.row (part-among searchable 0 c.requires.counts_nonzero (get_or c.args.self.now.options.counts.now 0 0 - 1) (omega arith))

pub returns : goal.returns
returns c =
    let searchable = rw (c.args.self.now.same_strands) at c.args.self.now.options.searchable in
    let counts = c.args.self.now.options.counts.now in
    let some = searchable.some 0 c.requires.counts_nonzero in
    let filled = c.fill_neighbours.ensures in
    let pairs = rw (c.of.ensures.row, c.friends.ensures.row) at filled.by_index in
    record {
      kept = filled.kept;
      closing_held = closing-held (strand_bond_in c.args.self.now.design.now) searchable c.fill_neighbours.new.cells c.requires.counts_nonzero (get_or counts (length counts - 1) 0) (get_or counts 0 0 - 1) refl (omega arith) pairs;
    }
