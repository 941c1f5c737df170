-- `replay::designs::count` meets its contract: the call has the definition's figures, and the rest of the line says them. Assumes nothing.
use Rattle.std.proofs.Common.{refl}
use Rattle.replay.proofs.Values.{on-some}
use Rattle.replay.proofs.Figures.{says-as}
use Rattle.replay.proofs.designs.count.Goals as goal

pub returns : goal.returns
returns c =
    let told = c.mj_states-reply.ensures in
    on-some c.says.result c.says.ensures (λ e. says-as refl told.number (rw told.figure) e)
