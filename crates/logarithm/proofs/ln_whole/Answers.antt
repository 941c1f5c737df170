use mathlib.Core.Path.{◌∙◌}
use native.Mathlib.Omega.{arith}
use Rattle.logarithm.proofs.Doubled.{shifted}
use Rattle.logarithm.proofs.ln_whole.Goals as goal

pub ln_ratio-requires : goal.ln_ratio-requires
ln_ratio-requires c =
    let k = c.ilog2-k in
    let s = shifted c.args.a c.args.b k.result (omega arith) (omega arith) k.ensures.power_le k.ensures.next_power_gt in
    (s.positive, s.fits, s.above, omega arith, omega (arith, s.few))

pub returns : goal.returns
returns c =
    let k = c.ilog2-k in
    let s = shifted c.args.a c.args.b k.result (omega arith) (omega arith) k.ensures.power_le k.ensures.next_power_gt in
    c.ln_ratio.ensures ∙ rw c.from.ensures s.same
