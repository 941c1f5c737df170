use mathlib.Core.Path.{refl, sym, ◌∙◌}
use Prim.Native.Nat.{◌^◌, ◌≤◌}
use native.Mathlib.Nat.{div-le_self, le_refl}
use native.Mathlib.Omega.{arith}
use Rattle.logarithm.specs.Figure.{ln_series}
use Rattle.logarithm.proofs.Steps.{power-falls, terms-step, terms-end}
use Rattle.logarithm.proofs.ln_series.Goals as goal

pub loop-j-init : goal.loop-j-init
unfolding ln_series
loop-j-init c = (le_refl (2 ^ 54), omega arith, refl)

pub loop-j-preserved : goal.loop-j-preserved
loop-j-preserved c =
    let l = c.loop-j in
    let power = c.mul_units-power in
    let fallen : power.result ≤ 2 ^ 54 = rw power.ensures (power-falls l.power c.args.u (omega arith) (omega arith)) in (
      fallen,
      omega (arith, div-le_self power.result l.j),
      l.invariant.2 ∙ rw power.ensures (terms-step c.args.u l.j l.power l.sum (omega arith) (omega arith)),
    )

pub returns : goal.returns
returns c = let l = c.loop-j in sym (l.invariant.2 ∙ terms-end c.args.u l.j _ l.power l.sum (omega arith))
