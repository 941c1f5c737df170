-- `replay::setting::set` meets its contract. Assumes nothing.
use Rattle.std.proofs.Common.{refl}
use Rattle.replay.proofs.setting.set.Goals as goal

pub returns : goal.returns
returns g c = record { index = c.in_ok-index.index; first = c.in_ok-index.ensures; entries = refl }
