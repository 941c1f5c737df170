-- Assumes nothing.
use mathlib.Core.Path.{◌∙◌}
use native.Mathlib.Omega.{arith}
use Rattle.logarithm.proofs.Parts.{from-one-is}
use Rattle.logarithm.proofs.from_one.Goals as goal

pub returns : goal.returns
returns c = c.reduced.ensures ∙ from-one-is c.args.m (omega arith) (omega arith) c.args.k c.quotient.result c.quotient.ensures
