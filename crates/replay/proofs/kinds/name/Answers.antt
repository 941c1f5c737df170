-- `replay::kinds::name` meets its contract: the call has the definition's figures, and the rest of the line says them. Assumes nothing.
use Rattle.std.proofs.Common.{ap, ◌∙◌}
use Rattle.replay.specs.Kinds.{letters}
use Rattle.replay.proofs.Values.{on-some}
use Rattle.replay.proofs.Figures.{says-as}
use Rattle.replay.proofs.kinds.name.Goals as goal

pub returns : goal.returns
returns c =
    let told = c.mj_name-reply.ensures in
    let words = c.split_at_first.ensures in
    let s = c.letters-s.ensures ∙ ap letters words.before in
    on-some c.says.result c.says.ensures (λ e. says-as words.after (rw (told.value, s)) (rw (told.base_length_after, told.is_base_after, s)) e)
