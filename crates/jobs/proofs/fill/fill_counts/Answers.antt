use Rattle.std.proofs.Common.{rules}
use Rattle.jobs.specs.inner.Settled.{count_of_word}
use Rattle.jobs.proofs.fill.fill_counts.Goals as goal

pub returns : goal.returns
unfolding count_of_word
returns c = c.fill.ensures (count_of_word c.args.states) (λ word x h. search rules)
