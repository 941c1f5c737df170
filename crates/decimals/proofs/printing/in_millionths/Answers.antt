-- `decimals::printing::in_millionths` meets its contract. Assumes nothing.
use mathlib.Core.Path.{◌∙◌}
use Rattle.decimals.proofs.Sizes.{low-millionths, normal-millionths}
use Rattle.decimals.proofs.printing.in_millionths.Goals as goal

pub returns-then-field-eq0 : goal.returns-then-field-eq0
returns-then-field-eq0 c = c.shifted_millionths.ensures ∙ low-millionths c.args.bits c.requires c.if-field-eq0.true

pub returns : goal.returns
returns c = c.shifted_millionths-2.ensures ∙ normal-millionths c.args.bits c.requires c.if-field-eq0.false
