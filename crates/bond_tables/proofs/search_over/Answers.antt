-- Only an admitted call writes, and what it writes and answers is the lowest configuration over the lent bonds with its energy. Assumes nothing.
use mathlib.Core.Path.{refl, sym, ap, ◌∙◌}
use mathlib.Core.Bool.{not}
use mathlib.Core.List.{[]}
use borrow.Author.Tests.{eq-eqb}
use lib.Dec.{eqb}
use lib.ListN.{length}
use Rattle.std.proofs.lemmas.Result.{err_from_is_err_and}
use Rattle.doubles.specs.Decimal.{zero}
use Rattle.reply.specs.First.{first_of}
use Rattle.reply.proofs.Figures.{refused-by, kept_by, no-admission}
use Rattle.model.specs.Search as Search
use Rattle.design.specs.Design.{positions}
use Rattle.design.specs.Checks.{design_checks}
use Rattle.bond_tables.specs.Tables.{model_over}
use Rattle.bond_tables.specs.Answers.{search_over_checks}
use Rattle.bond_tables.proofs.Over.{told-by, over-admits}
use Rattle.bond_tables.proofs.Bounded.{lowest-over}
use Rattle.bond_tables.proofs.search_over.Goals as goal

pub returns-in_err-bonds_reply-clause-result_value : goal.returns-in_err-bonds_reply-clause-result_value
returns-in_err-bonds_reply-clause-result_value c =
    let d = c.args.design.now in
    let t = c.args.tables.now.strand_bonds.now in
    let u = c.args.tables.now.scaffold_bonds.now in
    let e = c.args.configuration.now in
    let p = err_from_is_err_and c.from_residual.result c.from_residual.ensures.1 in
    let own = rw c.positions.ensures at (c.bonds_reply.ensures.value []) in
    rw (p.1, p.2) (refused-by zero (Search.search (model_over d t u)).energy (told-by c.bonds_reply.result _ (first_of (design_checks (not (eqb (length e) (positions d))) d [] [])) (first_of (search_over_checks d t u e)) own c.in_err-bonds_reply.was))

pub returns-in_err-bonds_reply-clause-configuration_after : goal.returns-in_err-bonds_reply-clause-configuration_after
returns-in_err-bonds_reply-clause-configuration_after c =
    let d = c.args.design.now in
    let t = c.args.tables.now.strand_bonds.now in
    let u = c.args.tables.now.scaffold_bonds.now in
    let e = c.args.configuration.now in
    let own = rw c.positions.ensures at (c.bonds_reply.ensures.value []) in
    kept_by e (Search.search (model_over d t u)).configuration (told-by c.bonds_reply.result _ (first_of (design_checks (not (eqb (length e) (positions d))) d [] [])) (first_of (search_over_checks d t u e)) own c.in_err-bonds_reply.was)

pub returns-in_err-bonds_reply-clause-lowest_over : goal.returns-in_err-bonds_reply-clause-lowest_over
returns-in_err-bonds_reply-clause-lowest_over c =
    let d = c.args.design.now in
    let t = c.args.tables.now.strand_bonds.now in
    let u = c.args.tables.now.scaffold_bonds.now in
    let e = c.args.configuration.now in
    let own = rw c.positions.ensures at (c.bonds_reply.ensures.value []) in
    let refused = told-by c.bonds_reply.result _ (first_of (design_checks (not (eqb (length e) (positions d))) d [] [])) (first_of (search_over_checks d t u e)) own c.in_err-bonds_reply.was in
    λ w tables cells l. no-admission (sym refused ∙ over-admits (not (eqb (length e) (positions d))) d t u [] (record { size = ap not (eq-eqb _ _ l); tables = tables; cells = cells; design = w; mine = refl }))

pub returns-clause-lowest_over : goal.returns-clause-lowest_over
returns-clause-lowest_over c =
    let d = c.args.design.now in
    let t = c.args.tables.now.strand_bonds.now in
    let u = c.args.tables.now.scaffold_bonds.now in
    λ w tables cells _. lowest-over d t u tables w c.hold_doubles.ensures c.hold_doubles-2.ensures c.hold_doubles-3.ensures cells (rw c.in_ok-admitted.ensures.same at c.lowest_over.ensures)
