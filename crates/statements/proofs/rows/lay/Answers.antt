use mathlib.Core.Path.{◌∙◌}
use native.Mathlib.Omega.{arith}
use Rattle.statements.specs.Rows.{rows_from}
use Rattle.statements.proofs.Lines.{line_step, line-count}
use Rattle.statements.proofs.rows.lay.Goals as goal

pub lay_line-next-requires : goal.lay_line-next-requires
lay_line-next-requires c =
    let l = c.loop-line in
    let count = line-count c.args.text.now l.line-iterator c.next.new.self c.in-Some.line l.invariant.0 c.in-Some.ensures.steps in
    omega arith

pub loop-line-preserved : goal.loop-line-preserved
loop-line-preserved c =
    let l = c.loop-line in
    let first = c.in-Some.ensures.steps in
    let count = line-count c.args.text.now l.line-iterator c.next.new.self c.in-Some.line l.invariant.0 first in
    let laid = c.lay_line-next.ensures in (
      first.same ∙ l.invariant.0,
      omega arith,
      omega arith,
      line_step c.args.text.now l.line-iterator c.next.new.self c.in-Some.line l.invariant.0 first l.rows _ l.next _ laid.1 laid.0 ∙ l.invariant.3,
    )

pub returns : goal.returns
unfolding rows_from
returns c = rw c.in-None.ensures.steps.0 at c.loop-line.invariant.3
