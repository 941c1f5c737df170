-- `statements::rows::check` meets its contract: of each line its fault, its rows, or those after it. Assumes nothing.
use Rattle.std.proofs.Common.{rules}
use mathlib.Core.Path.{ap, sym, ◌≡◌, ◌∙◌}
use Rattle.std.proofs.lemmas.Result.{err_from_is_err_and}
use native.Mathlib.Omega.{arith}
use Rattle.std.specs.Prelude.{Err}
use Rattle.statements.specs.Rows.{answer_from}
use Rattle.statements.specs.declared.ReadFault.TheVariants.{Unreadable}
use Rattle.statements.proofs.Lines.{answer-fault, answer-full, answer-more, handed-ok, handed-err}
use Rattle.statements.proofs.rows.check.Goals as goal

pub returns-in_err-more : goal.returns-in_err-more
returns-in_err-more c =
    let l = c.loop-line in
    let e = handed-err _ c.in_err-more.field-0.0 c.count_rows.result c.map_err.result c.in_err-more.was c.map_err.ensures.cases in
    let told : c.in_err-more.field-0.0 ≡ Unreadable c.in-Some.line.number e.0 = search rules in
    let given = err_from_is_err_and c.from_residual.result c.from_residual.ensures.1 in
    given.1 ∙ ap Err (given.2 ∙ told)
    ∙ sym (l.invariant.2 ∙ answer-fault c.args.text.now l.line-iterator c.next.new.self c.in-Some.line l.invariant.1 c.in-Some.ensures.steps c.args.room l.count e.0 (sym c.count_rows.ensures ∙ e.1))

pub returns-then-room-count : goal.returns-then-room-count
returns-then-room-count c =
    let l = c.loop-line in
    let here = sym c.count_rows.ensures ∙ handed-ok _ c.in_ok-more.more c.count_rows.result c.map_err.result c.in_ok-more.was c.map_err.ensures.cases in
    sym (l.invariant.2 ∙ answer-full c.args.text.now l.line-iterator c.next.new.self c.in-Some.line l.invariant.1 c.in-Some.ensures.steps c.args.room l.count c.in_ok-more.more here (omega arith))

pub loop-line-preserved : goal.loop-line-preserved
loop-line-preserved c =
    let l = c.loop-line in
    let first = c.in-Some.ensures.steps in
    let here = sym c.count_rows.ensures ∙ handed-ok _ c.in_ok-more.more c.count_rows.result c.map_err.result c.in_ok-more.was c.map_err.ensures.cases in
    (omega arith, first.same ∙ l.invariant.1, l.invariant.2 ∙ answer-more c.args.text.now l.line-iterator c.next.new.self c.in-Some.line l.invariant.1 first c.args.room l.count c.in_ok-more.more here (omega arith))

pub returns : goal.returns
unfolding answer_from
returns c = sym (rw c.in-None.ensures.steps.0 at c.loop-line.invariant.2)
