-- Assumes nothing.
use mathlib.Core.Path.{◌∙◌}
use Rattle.logarithm.proofs.Parts.{ratio-is}
use Rattle.logarithm.proofs.ln_ratio.Goals as goal

pub returns : goal.returns
returns c = c.reduced.ensures ∙ ratio-is c.args.a c.args.b c.args.k c.quotient.result c.quotient.ensures
