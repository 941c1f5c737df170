-- What the parts of the calculation give.
use Rattle.std.specs.Prelude.{◌≡◌, ℕ, ◌+◌, ◌-◌, ◌*◌, ◌^◌, ◌≤◌, ◌<◌, Float}
use Rattle.std.specs.Float.Ieee.Positive.{num, den}
use Rattle.fractions.specs.Frac.{frac}
use Rattle.exponential.specs.Exponential.{ExpAtMost, ExpAtLeast}

-- the size of x in units of 2^-46, cut to a whole number
pub record Cut (x : Float) (y : ℕ) : Type 0 where
  pub small : y ≤ 80000 * 2 ^ 46
  pub under : y * den x ≤ num x * 2 ^ 46
  pub above : num x * 2 ^ 46 ≤ (y + 1) * den x

-- 2^k × d / 2^30 is near exp (y / 2^46), and its digits are in form
pub record Weighed (y d k : ℕ) : Type 0 where
  pub least : 2 ^ 30 ≤ d
  pub most : d < 2 ^ 31
  pub power : k ≤ 2 ^ 17
  pub under : ExpAtLeast y (2 ^ 46) (frac (2 ^ k * (d * (2 ^ 29 - 1))) (2 ^ 59))
  pub above : ExpAtMost (y + 1) (2 ^ 46) (frac (2 ^ k * (d + 3)) (2 ^ 30))
  pub none : y ≡ 0 → (d ≡ 2 ^ 30) × (k ≡ 0)
