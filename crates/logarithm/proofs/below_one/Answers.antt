-- Assumes nothing.
use mathlib.Core.Path.{◌∙◌}
use native.Mathlib.Omega.{arith}
use Rattle.logarithm.proofs.Parts.{below-one-is}
use Rattle.logarithm.proofs.below_one.Goals as goal

pub returns : goal.returns
returns c = c.reduced.ensures ∙ below-one-is c.args.m (omega arith) (omega arith) c.args.k
