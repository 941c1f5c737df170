-- `replay::designs::state` meets its contract: the call has the definition's figures, and the rest of the line says them. Assumes nothing.
use Rattle.replay.proofs.Values.{on-some}
use Rattle.replay.proofs.Words.{as-decimal}
use Rattle.replay.proofs.Letters.{places-as}
use Rattle.replay.proofs.designs.state.Goals as goal

pub returns : goal.returns
returns c =
    let answer = c.mj_state-reply.ensures in
    let words = c.split_at_first.ensures in
    on-some c.says_places.result c.says_places.ensures
    (λ e.
    record {
      rank = c.in_ok-rank.rank;
      first = as-decimal words.before c.in_ok-rank.ensures;
      answer = places-as words.after answer.told.number answer.entries_after e;
    })
