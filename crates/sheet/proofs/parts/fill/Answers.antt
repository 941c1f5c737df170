use native.Mathlib.Omega.{arith}
use Rattle.sheet.proofs.Fill.{filled_none, filled_more}
use Rattle.sheet.proofs.parts.fill.Goals as goal

pub loop-k-init : goal.loop-k-init
loop-k-init g c f h = filled_none f c.args.out.now

pub loop-k-preserved : goal.loop-k-preserved
loop-k-preserved g c f h = filled_more (c.loop-k.invariant f h) (omega arith) (h c.loop-k.k c.rule.result c.rule.ensures)
