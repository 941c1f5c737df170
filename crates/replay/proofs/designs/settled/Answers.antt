-- `replay::designs::settled` meets its contract: the call has the definition's figures, and the rest of the line says them. Assumes nothing.
use Rattle.std.proofs.Common.{refl}
use Rattle.replay.proofs.Values.{on-some}
use Rattle.replay.proofs.Letters.{places-as}
use Rattle.replay.proofs.designs.settled.Goals as goal

pub returns : goal.returns
returns c =
    let answer = c.mj_search-reply.ensures in
    on-some c.says_places.result c.says_places.ensures (λ e. places-as refl answer.told.number answer.configuration_after e)
