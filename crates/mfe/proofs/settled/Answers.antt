-- The filling of options and bonds and the search over them meet their contract. Assumes nothing.
use mathlib.Core.Path.{refl, sym, ◌∙◌}
use Rattle.design.specs.Design.{strand_bond_in, model_of}
use Rattle.design.proofs.Held.{pairs-kept}
use Rattle.design.proofs.Cells.{bond-cells, closing-cells}
use Rattle.mfe.proofs.settled.Goals.{then-this-ne0, else-this-ne0}
use Rattle.mfe.proofs.settled.Goals as goal

pub returns-then-this-ne0-2-clause-ring : goal.returns-then-this-ne0-2-clause-ring
unfolding model_of
returns-then-this-ne0-2-clause-ring g c = λ closed.
    let d = c.admitted.inside.design.now in
    let given = rw (c.tabled.ensures ∙ sym c.admitted.view_is) at c.options_of-options.ensures in
    let options = given.option_rows (model_of d) refl in
    let bonds = c.new-bonds.ensures in
    let own = rw (sym c.admitted.view_is) at c.potentials.ensures in
    let filled = c.fill_read_strand_bonds in
    let sites = c.fill_needed_scaffold_bonds.ensures in
    rw (sym c.admitted.view_is) (elim c.if-this-ne0.branch [
      | then-this-ne0 w ↦
          let closing = w.fill_closing_bonds in
          let pairs = pairs-kept (strand_bond_in d) (rw given.same_strands at c.options_of-options.result.searchable) filled.new.cells closing.new.cells closing.ensures.kept filled.ensures in
          c.lowest_ring.ensures (model_of d) (record {
            options = options;
            bonds = rw (bonds.strand_bonds, bonds.scaffold_bonds, bonds.potentials, given.same_strands, w.strand_bonds-is) (bond-cells d c.admitted.invariant.0.admitted options pairs sites c.potentials.result.now own);
          })
          (rw (bonds.strand_bonds, given.same_strands, w.strand_bonds-is) (closing-cells d closing.new.cells options closing.ensures.closing_held))
          (rw c.rt.ensures refl)
      | else-this-ne0 w ↦ absurd (c.if-this-ne0-2.true w.if-this-ne0.false)
    ])

pub returns-else-this-ne0-2-clause-chain : goal.returns-else-this-ne0-2-clause-chain
unfolding model_of
returns-else-this-ne0-2-clause-chain g c = λ chain.
    let d = c.admitted.inside.design.now in
    let given = rw (c.tabled.ensures ∙ sym c.admitted.view_is) at c.options_of-options.ensures in
    let options = given.option_rows (model_of d) refl in
    let bonds = c.new-bonds.ensures in
    let own = rw (sym c.admitted.view_is) at c.potentials.ensures in
    let pairs = c.fill_read_strand_bonds.ensures in
    let sites = c.fill_needed_scaffold_bonds.ensures in
    rw (sym c.admitted.view_is) (elim c.if-this-ne0.branch [
      | then-this-ne0 w ↦ absurd (w.if-this-ne0.true c.if-this-ne0-2.false)
      | else-this-ne0 w ↦
          c.lowest.ensures (model_of d) (record {
            options = options;
            bonds = rw (bonds.strand_bonds, bonds.scaffold_bonds, bonds.potentials, given.same_strands, w.strand_bonds-is) (bond-cells d c.admitted.invariant.0.admitted options pairs sites c.potentials.result.now own);
          })
          (rw c.rt-else-this-ne0-2.ensures refl)
    ])
