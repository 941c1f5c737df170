-- `replay::kinds::loop_energy` meets its contract: the call has the definition's figures, and the rest of the line says them. Assumes nothing.
use Rattle.std.proofs.Common.{ap, ◌∙◌}
use Rattle.replay.specs.Kinds.{word, later}
use Rattle.replay.proofs.Words.{as-decimal}
use Rattle.replay.proofs.Values.{on-some}
use Rattle.replay.proofs.Figures.{says-as}
use Rattle.replay.proofs.kinds.loop_energy.Goals as goal

pub returns : goal.returns
returns c =
    let told = c.mj_loop_penalty-reply.ensures in
    let one = c.split_at_first.ensures in
    let two = c.split_at_first-2.ensures in
    on-some c.says.result c.says.ensures
    (λ e.
    record {
      size = c.in_ok-length.length;
      kind = c.in_ok-kind.kind;
      first = as-decimal one.before c.in_ok-length.ensures;
      second = as-decimal (two.before ∙ ap word one.after) c.in_ok-kind.ensures;
      answer = says-as (two.after ∙ ap later one.after) told.value (rw (c.bits.ensures, told.dg_after)) e;
    })
