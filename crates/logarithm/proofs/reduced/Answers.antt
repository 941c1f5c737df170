-- Assumes nothing.
use native.Mathlib.Omega.{arith}
use Rattle.logarithm.proofs.Steps.{series-small}
use Rattle.logarithm.proofs.Right.{step_small}
use Rattle.logarithm.proofs.Parts.{reduced-is}
use Rattle.logarithm.proofs.reduced.Goals as goal

pub overflow_add-result : goal.overflow_add-result
overflow_add-result c = omega (arith, step_small c.args.c (omega arith) (omega arith), rw (← c.ln_series.ensures) at (series-small c.args.u (omega arith)))

pub overflow_add-result-2 : goal.overflow_add-result-2
overflow_add-result-2 c = omega (arith, step_small c.args.c (omega arith) (omega arith), rw (← c.ln_series.ensures) at (series-small c.args.u (omega arith)))

pub returns : goal.returns
returns c = reduced-is c.args.c c.args.u c.args.k c.ln_series.result c.ln_series.ensures
