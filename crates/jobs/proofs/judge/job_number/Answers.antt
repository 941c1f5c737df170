use Rattle.reply.specs.Number.{answer_number}
use Rattle.jobs.proofs.Numbers.{job-told}
use mathlib.Core.Path.{ap, ◌∙◌}
use Rattle.jobs.proofs.judge.job_number.Goals as goal

pub returns : goal.returns
returns c = λ d w. c.number.ensures ∙ ap answer_number c.job_reply.ensures ∙ job-told d w c.args.asked
