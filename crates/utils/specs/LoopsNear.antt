-- How near the loop energies lie to document 02's exact values, every constant read as its exact decimal.
use Rattle.std.specs.Prelude.{◌≡◌, true, ℕ, ◌^◌, ◌<◌, T, Float}
use Rattle.std.specs.Float.Ieee.Scale.{finite}
use Rattle.fractions.specs.Frac.{Frac, frac, plus, times, LeFrac}
use Rattle.logarithm.specs.Logarithm.{lower, upper}
use Rattle.logarithm.specs.Near.{over_zero}
use Rattle.utils.specs.Paper.{loop_figure}
use Rattle.utils.specs.Figures.{entry_up_to, admitted_length, loop_energy}
use Rattle.utils.specs.declared.tables.LoopKind.{LoopKind}

-- R × 310.15 × 2.44, R as 0.00198720425864083
abbrev pub gain : Frac
gain = times (frac 198720425864083 (10 ^ 17)) (times (frac 31015 (10 ^ 2)) (frac 244 (10 ^ 2)))

-- 2^-30
abbrev pub slack : Frac
slack = frac 1 (2 ^ 30)

-- r is finite, not below zero, and lies within 2^-30 of tenths / 10 + gain × ln (n / base), over every bound of the logarithm
pub record LoopNear (tenths n base : ℕ) (r : Float) : Type 0 where
  pub whole : T (finite r)
  pub reached : (m : ℕ) → 0 < m → LeFrac (plus (frac tenths 10) (times gain (lower n base m))) (plus (over_zero r) slack)
  pub kept : (m : ℕ) → 0 < m → LeFrac (over_zero r) (plus (plus (frac tenths 10) (times gain (upper n base m))) slack)

-- of every kind and length that is admitted, from the longest entry up to it; proofs/LoopsNear.antt shows it
abbrev pub LoopsNear : Type 0
LoopsNear = (kind : LoopKind) (n : ℕ) → admitted_length n ≡ true → LoopNear (loop_figure kind (entry_up_to n)).digits n (entry_up_to n).length (loop_energy kind n)
