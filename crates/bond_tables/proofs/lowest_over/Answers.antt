-- The filling of options and the search over lent bonds meet their contract. Assumes nothing.
use mathlib.Core.Path.{refl, sym, ◌∙◌}
use Rattle.design.specs.Design.{model_of}
use Rattle.bond_tables.specs.Tables.{model_over}
use Rattle.bond_tables.proofs.Bounded.{tables-fit, cells-lent}
use Rattle.bond_tables.proofs.lowest_over.Goals as goal

pub returns : goal.returns
unfolding model_of model_over
returns c =
    let d = c.admitted.inside.design.now in
    let t = c.args.tables.now.strand_bonds.now in
    let u = c.args.tables.now.scaffold_bonds.now in
    let fit = tables-fit d t u (rw c.admitted.view_is c.requires.strand_bonds_len) (rw c.admitted.view_is c.requires.scaffold_bonds_len) in
    let bonds = c.new-bonds.ensures in
    let own = rw (sym c.admitted.view_is) at c.potentials.ensures in
    let given = rw (c.tabled.ensures ∙ sym c.admitted.view_is) at c.options_of-options.ensures in
    rw (sym c.admitted.view_is) (c.lowest.ensures (model_over d t u) (record {
      options = given.option_rows _ refl;
      bonds = rw (bonds.strand_bonds, bonds.scaffold_bonds, bonds.potentials, given.same_strands) (cells-lent d t u fit c.admitted.invariant.0.admitted c.potentials.result.now own);
    }) (rw c.rt.ensures refl))
