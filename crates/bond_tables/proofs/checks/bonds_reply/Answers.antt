-- What is refused on account of the tables: before the design's reply it is the reply over the tables. Assumes nothing.
use mathlib.Core.Path.{◌≡◌, sym, ap, ◌∙◌}
use mathlib.Core.Bool.{true, false}
use mathlib.Core.List.{[]}
use Rattle.std.proofs.lemmas.Result.{err_from_is_err_and}
use Rattle.reply.specs.Number.{Reply}
use Rattle.reply.specs.First.{first_of, ◌or_else◌}
use Rattle.reply.specs.declared.Refusal.TheVariants.{WrongSize}
use Rattle.design.specs.Checks.{design_checks}
use Rattle.design.proofs.Replies.{bare-false}
use Rattle.bond_tables.specs.Tables.{bonds_out}
use Rattle.bond_tables.proofs.Over.{bare-true, not-wrong, wrong-told, range-told, same-checks}
use Rattle.bond_tables.proofs.checks.bonds_reply.Goals as goal
use Rattle.bond_tables.proofs.checks.bonds_reply.Goals.{then-cells_beyond-via-then-cells_beyond, then-cells_beyond-via-else-cells_beyond+then-cells_beyond-2}

pub returns-in_err-refused_if-clause-value : goal.returns-in_err-refused_if-clause-value
returns-in_err-refused_if-clause-value c = λ own.
    let a = c.args in
    let p = err_from_is_err_and c.from_residual.result c.from_residual.ensures.1 in
    let w = bare-true c.wrong_tables-wrong.result WrongSize c.in_err-refused_if.ensures in
    rw (p.1, p.2, w.1) (wrong-told a.own_size a.design.now a.tables.now.strand_bonds.now a.tables.now.scaffold_bonds.now own (sym c.wrong_tables-wrong.ensures ∙ w.0))

pub returns-then-cells_beyond-clause-value : goal.returns-then-cells_beyond-clause-value
unfolding bonds_out
returns-then-cells_beyond-clause-value c = λ own.
    let a = c.args in
    let d = a.design.now in
    let t = a.tables.now.strand_bonds.now in
    let u = a.tables.now.scaffold_bonds.now in
    let right = not-wrong d t u (sym c.wrong_tables-wrong.ensures ∙ bare-false c.wrong_tables-wrong.result WrongSize c.in_ok-refused_if.ensures) in
    let out : bonds_out t u ≡ true =
    elim c.then-cells_beyond.branch [
      | then-cells_beyond-via-then-cells_beyond w ↦ simp (sym c.cells_beyond.ensures ∙ w.if-cells_beyond.true)
      | then-cells_beyond-via-else-cells_beyond+then-cells_beyond-2 w ↦ simp (sym c.cells_beyond.ensures ∙ w.if-cells_beyond.false, sym w.cells_beyond-else-cells_beyond.ensures ∙ w.if-cells_beyond-2.true)
    ] in
    ap (λ (r : Reply). r or_else first_of (design_checks a.own_size d own [])) c.ranged_reply.ensures.value
    ∙ range-told a.own_size d t u own right out (first_of (design_checks a.own_size d own []))

pub returns-clause-cells : goal.returns-clause-cells
unfolding bonds_out
returns-clause-cells c = simp (sym c.cells_beyond.ensures ∙ c.if-cells_beyond.false, sym c.cells_beyond-else-cells_beyond.ensures ∙ c.if-cells_beyond-2.false)

pub returns-clause-value : goal.returns-clause-value
unfolding bonds_out
returns-clause-value c = λ own.
    let a = c.args in
    let d = a.design.now in
    let t = a.tables.now.strand_bonds.now in
    let u = a.tables.now.scaffold_bonds.now in
    let right = not-wrong d t u (sym c.wrong_tables-wrong.ensures ∙ bare-false c.wrong_tables-wrong.result WrongSize c.in_ok-refused_if.ensures) in
    let inside : bonds_out t u ≡ false = simp (sym c.cells_beyond.ensures ∙ c.if-cells_beyond.false, sym c.cells_beyond-else-cells_beyond.ensures ∙ c.if-cells_beyond-2.false) in
    sym (same-checks a.own_size d t u own right inside)
