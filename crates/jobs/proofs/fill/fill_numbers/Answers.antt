use Rattle.std.proofs.Common.{rules}
use Rattle.jobs.specs.Job.{job_number}
use Rattle.jobs.proofs.fill.fill_numbers.Goals as goal

pub returns : goal.returns
unfolding job_number
returns c = λ d w. c.fill.ensures (job_number d) (λ word x h. search rules)
