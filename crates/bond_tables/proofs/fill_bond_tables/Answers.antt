-- Only an admitted call writes, and then every cell of both tables. Assumes nothing.
use mathlib.Core.Path.{◌∙◌}
use mathlib.Core.List.{[]}
use Rattle.std.proofs.lemmas.Result.{err_from_is_err_and}
use Rattle.reply.proofs.Figures.{refused-by, written-by, kept_by}
use Rattle.design.specs.Design.{positions, strands, strand_bond_in, scaffold_bond_in}
use Rattle.design.proofs.Replies.{passed}
use Rattle.bond_tables.specs.Tables.{strand_table, scaffold_table, wrong_tables}
use Rattle.bond_tables.proofs.Over.{fill-told}
use Rattle.bond_tables.proofs.Bounded.{table-sizes}
use Rattle.bond_tables.proofs.Table.{table_is}
use Rattle.bond_tables.proofs.fill_bond_tables.Goals as goal

pub returns-in_err-admitted-clause-result_value : goal.returns-in_err-admitted-clause-result_value
returns-in_err-admitted-clause-result_value c =
    let a = c.args in
    let p = err_from_is_err_and c.from_residual.result c.from_residual.ensures.1 in
    rw (p.1, p.2) (refused-by tt tt (fill-told a.design.now a.strand_bonds.now a.scaffold_bonds.now c.wrong_tables-own_size.ensures c.in_err-admitted.ensures.value))

pub returns-in_err-admitted-clause-strand_bonds_after : goal.returns-in_err-admitted-clause-strand_bonds_after
returns-in_err-admitted-clause-strand_bonds_after c =
    let a = c.args in
    kept_by a.strand_bonds.now (strand_table a.design.now) (fill-told a.design.now a.strand_bonds.now a.scaffold_bonds.now c.wrong_tables-own_size.ensures c.in_err-admitted.ensures.value)

pub returns-in_err-admitted-clause-scaffold_bonds_after : goal.returns-in_err-admitted-clause-scaffold_bonds_after
returns-in_err-admitted-clause-scaffold_bonds_after c =
    let a = c.args in
    kept_by a.scaffold_bonds.now (scaffold_table a.design.now) (fill-told a.design.now a.strand_bonds.now a.scaffold_bonds.now c.wrong_tables-own_size.ensures c.in_err-admitted.ensures.value)

pub returns-clause-strand_bonds_after : goal.returns-clause-strand_bonds_after
returns-clause-strand_bonds_after c =
    let a = c.args in
    let d = a.design.now in
    let t = a.strand_bonds.now in
    let u = a.scaffold_bonds.now in
    let reply = fill-told d t u c.wrong_tables-own_size.ensures c.in_ok-admitted.ensures.value in
    let sizes = table-sizes d t u (passed (wrong_tables d t u) d [] [] reply).size in
    let is = c.admitted-2.view_is ∙ c.in_ok-admitted.ensures.same in
    let pairs = rw is at c.fill_strand_bonds.ensures in
    table_is (strands d) (strands d) (strand_bond_in d) _ (pairs.sized ∙ sizes.0) (λ x y h k. pairs.above x y h k) ∙ written-by t (strand_table d) reply

pub returns-clause-scaffold_bonds_after : goal.returns-clause-scaffold_bonds_after
returns-clause-scaffold_bonds_after c =
    let a = c.args in
    let d = a.design.now in
    let t = a.strand_bonds.now in
    let u = a.scaffold_bonds.now in
    let reply = fill-told d t u c.wrong_tables-own_size.ensures c.in_ok-admitted.ensures.value in
    let sizes = table-sizes d t u (passed (wrong_tables d t u) d [] [] reply).size in
    let is = c.admitted-2.view_is ∙ c.in_ok-admitted.ensures.same in
    let sites = rw is at c.fill_scaffold_bonds.ensures in
    table_is (positions d) (strands d) (scaffold_bond_in d) _ (sites.sized ∙ sizes.1) (λ i x h k. sites.above i x h k) ∙ written-by u (scaffold_table d) reply
