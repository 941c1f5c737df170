use mathlib.Core.Path.{◌≡◌, sym, ap, ◌∙◌}
use mathlib.Core.Bool.{Bool}
use lib.Ieee.{of_bits}
use Rattle.logarithm.specs.Answer.{ln_figures, ln_answer}
use Rattle.design.specs.Design.{amount}
use Rattle.design.specs.Checks.{somewhere}
use Rattle.design.proofs.ReadLogarithms.{unread, read-logarithm, read-friend}
use Rattle.design.proofs.Design.logarithm_of.Goals as goal
use Rattle.design.proofs.Design.logarithm_of.Goals.{else-is_err-via-then-is_err+else-not-is_friend_somewhere, else-is_err-via-else-is_err}

pub returns-then-not-is_friend_somewhere : goal.returns-then-not-is_friend_somewhere
unfolding of_bits
returns-then-not-is_friend_somewhere c =
    let d = c.args.self.now in
    let x = c.args.strand in
    let e : ln_figures c.ln-logarithm.result ≡ ln_answer (amount d x) = c.ln-logarithm.ensures ∙ ap ln_answer c.amount_of.ensures in
    unread c.ln-logarithm.result (amount d x) (somewhere d.scaffold d.marks d.glues d.dg d.ds x) e (sym c.is_err.ensures.value ∙ c.if-is_err.true) (sym c.is_friend_somewhere.ensures ∙ c.if-not-is_friend_somewhere.true)

pub returns : goal.returns
returns c =
    let d = c.args.self.now in
    let x = c.args.strand in
    let friend : Bool = somewhere d.scaffold d.marks d.glues d.dg d.ds x in
    let e : ln_figures c.ln-logarithm.result ≡ ln_answer (amount d x) = c.ln-logarithm.ensures ∙ ap ln_answer c.amount_of.ensures in
    elim c.else-is_err.branch [
      | else-is_err-via-then-is_err+else-not-is_friend_somewhere w ↦ read-friend c.ln-logarithm.result (amount d x) friend e (sym w.is_friend_somewhere.ensures ∙ w.if-not-is_friend_somewhere.false)
      | else-is_err-via-else-is_err w ↦ read-logarithm c.ln-logarithm.result (amount d x) friend e (sym c.is_err.ensures.value ∙ w.if-is_err.false)
    ]
