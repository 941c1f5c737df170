-- `replay::kinds::ambient` meets its contract: the call has the definition's figures, and the rest of the line says them. Assumes nothing.
use Rattle.std.proofs.Common.{sym, ◌∙◌}
use Rattle.replay.proofs.Values.{on-some}
use Rattle.replay.proofs.Figures.{says-as}
use Rattle.replay.proofs.kinds.ambient.Goals as goal

pub returns : goal.returns
returns c =
    let told = c.mj_ambient-reply.ensures in
    let words = c.split_at_first.ensures in
    on-some c.says.result c.says.ensures
    (λ e.
    record {
      kelvin = c.in_ok-read.read;
      first = sym words.before ∙ c.in_ok-read.ensures;
      answer =
          says-as words.after (rw (told.value, c.double-kelvin.ensures))
          (rw (c.bits.ensures, c.bits-2.ensures, c.bits-3.ensures, told.rt_after, told.strand_excess_after, told.scaffold_excess_after, c.double-kelvin.ensures))
          e;
    })
