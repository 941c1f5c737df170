-- What is at most a whole number in size is not beyond it. Assumes nothing.
use mathlib.Core.Path.{◌≡◌, ap}
use mathlib.Core.Bool.{false, not}
use Prim.Native.Nat.{ℕ, ◌^◌, ◌≤◌}
use lib.Ieee.{Float, binary64, prec}
use Rattle.doubles.specs.Decimal.{nearest}
use Rattle.doubles.specs.Size.{Within}
use Rattle.doubles.proofs.Bounds.{within-passes}
use Rattle.design.specs.Checks.{beyond}

pub not-out : (A : ℕ) → A ≤ 2 ^ prec binary64 → (x : Float) → Within binary64 A x → beyond A x ≡ false
unfolding nearest
not-out A h x w = ap not (within-passes A h x w)
