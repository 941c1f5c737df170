-- `replay::designs::search` meets its contract: the call has the definition's figures, and the rest of the line says them. Assumes nothing.
use Rattle.std.proofs.Common.{refl}
use Rattle.replay.proofs.Values.{on-some}
use Rattle.replay.proofs.Figures.{says-as}
use Rattle.replay.proofs.designs.search.Goals as goal

pub returns : goal.returns
returns c =
    let told = c.mj_search-reply.ensures.told in
    on-some c.says.result c.says.ensures (λ e. says-as refl told.number (rw (c.bits.ensures, told.figure)) e)
