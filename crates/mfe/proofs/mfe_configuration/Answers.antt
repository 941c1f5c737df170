-- What is written and answered is the lowest configuration with its energy. Assumes nothing.
use mathlib.Core.Path.{refl}
use Rattle.mfe.proofs.Shown.{lowest-shown}
use Rattle.mfe.proofs.mfe_configuration.Goals as goal

pub returns-clause-lowest_shown : goal.returns-clause-lowest_shown
returns-clause-lowest_shown c = λ w _. lowest-shown c.args.design.now w c.hold_doubles.ensures (rw c.in_ok-admitted.ensures.same at c.searched.ensures.chain refl)
