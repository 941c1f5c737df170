-- `replay::kinds::sequence` meets its contract: the call has the definition's figures, and the rest of the line says them. Assumes nothing.
use Rattle.std.proofs.Common.{ap, ◌∙◌}
use Rattle.replay.specs.Kinds.{letters}
use Rattle.replay.proofs.Values.{on-some}
use Rattle.replay.proofs.Figures.{says-as}
use Rattle.replay.proofs.kinds.sequence.Goals as goal

pub returns : goal.returns
returns c =
    let words = c.split_at_first.ensures in
    let s = c.letters-s.ensures ∙ ap letters words.before in
    on-some c.says.result c.says.ensures
    (λ e. says-as words.after (rw (c.mj_sequence_reply-reply.ensures, s)) (rw (c.mj_sequence_dg.ensures, c.mj_sequence_ds.ensures, s)) e)
