-- The invariant: what is left of the series gives the whole, and power and sum are bounded. Assumes nothing.
use mathlib.Core.Path.{◌≡◌}
use Prim.Native.Nat.{◌-◌, ◌*◌, ◌^◌, ◌≤◌}
use Rattle.logarithm.specs.Figure.{terms_from, ln_series}
use Rattle.logarithm.proofs.ln_series.Given as goal

abbrev pub invariant-loop-j : goal.invariant-loop-j
invariant-loop-j l = (l.power ≤ 2 ^ 54) × (l.sum ≤ (l.j - 1) * 2 ^ 54) × (ln_series l.u ≡ terms_from (9 - l.j) l.u (l.j - 1) l.power l.sum)
