-- The filling of the bonds that states and the search read meets its contract. Assumes nothing.
use Rattle.design.specs.Design.{strand_bond_in}
use Rattle.design.specs.Blocked.{with_marks}
use Rattle.prepared.proofs.Cells.{pairs-kept, state-cells}
use Rattle.prepared.proofs.bonds.fill_bonds.Goals as goal

pub returns : goal.returns
returns c =
    λ marks potentials own admitted options.
    let d = c.args.optioned.now.design.now in
    let empties = c.fill_empties.ensures in
    state-cells (with_marks d marks) admitted options (pairs-kept (strand_bond_in d) (rw (c.args.optioned.now.same_strands) at c.args.optioned.now.options.searchable) empties.kept c.fill_read_strand_bonds.ensures) empties.by_index c.fill_needed_scaffold_bonds.ensures potentials own
