use Rattle.std.proofs.Common.{rules}
use Rattle.design.specs.Design.{model_of}
use Rattle.jobs.specs.inner.Settled.{energy_of_word}
use Rattle.jobs.proofs.fill.fill_energies.Goals as goal

pub returns : goal.returns
unfolding energy_of_word
returns c = c.fill.ensures (energy_of_word (model_of c.args.settled.now.admitted.now) c.args.settled.now.least.0) (λ word x h. search rules)
