-- `replay::kinds::pair` meets its contract: the call has the definition's figures, and the rest of the line says them. Assumes nothing.
use Rattle.std.proofs.Common.{ap, ◌∙◌}
use Rattle.replay.specs.Kinds.{word, later, letters}
use Rattle.replay.proofs.Values.{on-some}
use Rattle.replay.proofs.Figures.{says-as}
use Rattle.replay.proofs.kinds.pair.Goals as goal

pub returns : goal.returns
returns c =
    let one = c.split_at_first.ensures in
    let two = c.split_at_first-2.ensures in
    let a = c.letters-a.ensures ∙ ap letters one.before in
    let b = c.letters-b.ensures ∙ ap letters (two.before ∙ ap word one.after) in
    on-some c.says.result c.says.ensures
    (λ e. says-as (two.after ∙ ap later one.after) (rw (c.mj_pair_reply-reply.ensures, a, b)) (rw (c.mj_pair_dg.ensures, c.mj_pair_ds.ensures, a, b)) e)
