-- `replay::designs::friends` meets its contract: the call has the definition's figures, and the rest of the line says them. Assumes nothing.
use Rattle.std.proofs.Common.{◌≡◌, take, rules}
use Rattle.replay.proofs.Words.{as-decimal}
use Rattle.replay.proofs.Values.{on-some}
use Rattle.replay.proofs.Letters.{places-as}
use Rattle.replay.proofs.designs.friends.Goals as goal

pub returns : goal.returns
returns c =
    let answer = c.mj_friends-reply.ensures in
    let words = c.split_at_first.ensures in
    let found : c.in_ok-friends.friends.now ≡ take c.mj_friends-reply.new.count c.mj_friends-reply.new.entries = let l = c.in_ok-friends.ensures.lookup in search rules in
    on-some c.says_places.result c.says_places.ensures
    (λ e.
    record {
      position = c.in_ok-position.position;
      first = as-decimal words.before c.in_ok-position.ensures;
      answer = places-as words.after answer.told.number (rw (found, answer.told.figure, answer.entries_after)) e;
    })
