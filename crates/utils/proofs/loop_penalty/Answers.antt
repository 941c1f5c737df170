-- `utils::loop_penalty` meets its contract: the two tests are the two halves of the check. Assumes nothing.
use mathlib.Core.Path.{◌≡◌, ap, ◌∙◌}
use mathlib.Core.Bool.{not, ◌||◌}
use lib.Dec.{ltb}
use borrow.Author.Tests.{lt-ltb, le-ltb}
use Rattle.std.specs.Prelude.{Ok}
use Rattle.reply.specs.First.{first_of}
use Rattle.reply.proofs.Bare.{same-error, admitted, answers}
use Rattle.utils.specs.Answers.{dg_figures, refused_dg}
use Rattle.utils.specs.Figures.{admitted_length}
use Rattle.utils.specs.Loops.{loop_checks, loop_penalty}
use Rattle.utils.proofs.loop_penalty.Goals as goal

pub returns-in_err-kind : goal.returns-in_err-kind
unfolding loop_penalty
returns-in_err-kind c =
    let no-kind = rw c.in_err-kind.was at c.try_from.ensures in
    ap dg_figures (same-error _ c.from_residual.ensures) ∙ simp (lt-ltb _ _ no-kind.0, no-kind.1)

pub returns-in_err-refused_if : goal.returns-in_err-refused_if
unfolding loop_penalty
returns-in_err-refused_if c =
    let kind = rw c.in_ok-kind.was at c.try_from.ensures in
    let known : (ltb 2 c.args.kind || not (admitted_length c.args.length)) ≡ not c.loop_admitted.result = simp (le-ltb _ _ kind.0, c.loop_admitted.ensures) in
    ap dg_figures (same-error _ c.from_residual-in_err-refused_if.ensures)
    ∙ answers (first_of (loop_checks c.args.length c.args.kind)) refused_dg _ (rw (← known) at c.in_err-refused_if.ensures)

pub returns : goal.returns
unfolding loop_penalty
returns c =
    let kind = rw c.in_ok-kind.was at c.try_from.ensures in
    let known : (ltb 2 c.args.kind || not (admitted_length c.args.length)) ≡ not c.loop_admitted.result = simp (le-ltb _ _ kind.0, c.loop_admitted.ensures) in
    let reply : first_of (loop_checks c.args.length c.args.kind) ≡ Ok tt = admitted _ (rw (← known) at c.in_ok-refused_if.ensures) in
    rw reply (cc)
