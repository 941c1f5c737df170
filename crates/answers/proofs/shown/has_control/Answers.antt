use mathlib.Core.Path.{sym, ◌∙◌}
use Rattle.answers.proofs.Controls.{control_on, control_past}
use Rattle.answers.proofs.shown.has_control.Goals as goal

pub loop-byte-preserved : goal.loop-byte-preserved
loop-byte-preserved c =
    let l = c.loop-byte in
    rw c.is_control-found.ensures (l.invariant ∙ control_on c.args.bytes.now l.byte-index l.before 0 c.loop-byte-test.true l.found)

pub returns : goal.returns
returns c =
    let l = c.loop-byte in
    sym (l.invariant ∙ control_past c.args.bytes.now l.byte-index l.before c.loop-byte-test.false l.found)
