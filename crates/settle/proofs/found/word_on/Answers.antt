use mathlib.Core.Path.{sym, ◌∙◌}
use borrow.Author.Tests.{eq-eqb, ne_eqb}
use Rattle.settle.specs.Places.{word_on}
use Rattle.settle.proofs.Shown.{word_step}
use Rattle.settle.proofs.found.word_on.Goals as goal

pub returns-then-line-number : goal.returns-then-line-number
returns-then-line-number c =
    let l = c.loop-line in
    let step = word_step c.args.text.now l.line-iterator c.next.new.self c.in-Some.line l.invariant.0 c.in-Some.ensures.steps c.args.number c.args.n in
    c.word_in.ensures ∙ sym (l.invariant.1 ∙ step ∙ simp (eq-eqb _ _ c.if-line-number.true))

pub loop-line-preserved : goal.loop-line-preserved
loop-line-preserved c =
    let l = c.loop-line in
    let first = c.in-Some.ensures.steps in
    let step = word_step c.args.text.now l.line-iterator c.next.new.self c.in-Some.line l.invariant.0 first c.args.number c.args.n in (
      first.same ∙ l.invariant.0,
      l.invariant.1 ∙ step ∙ simp (ne_eqb _ _ c.if-line-number.false),
    )

pub returns : goal.returns
unfolding word_on
returns c = sym (rw c.in-None.ensures.steps.0 at c.loop-line.invariant.1)
