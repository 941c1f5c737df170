-- What is written and answered is the lowest ring with its energy. Assumes nothing.
use mathlib.Core.Path.{refl}
use native.Mathlib.Omega.{arith}
use Rattle.ring.proofs.Shown.{lowest-shown}
use Rattle.ring.proofs.ring_configuration.Goals as goal

pub returns-clause-lowest_ring_shown : goal.returns-clause-lowest_ring_shown
returns-clause-lowest_ring_shown c = λ w h _. lowest-shown c.args.design.now w c.hold_doubles.ensures (omega arith) (rw c.in_ok-admitted.ensures.same at c.searched.ensures.ring refl)
