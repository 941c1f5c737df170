-- Weights: a whole number of 31 digits times a power of two with a signed exponent, and the fraction that one is worth.
use Rattle.std.specs.Prelude.{ℕ, ◌*◌, ◌^◌, ◌≤◌, ◌<◌, ℤ, negsuc}
use Rattle.std.specs.Float.Ieee.{up, down}
use Rattle.fractions.specs.Frac.{Frac, frac}
use Rattle.fractions.specs.declared.Weight.{Weight}

-- digits × 2^power
abbrev pub weight : ℕ → ℤ → Weight
weight digits power = record { digits = digits; power = power }

-- what it is worth: `up` and `down` are the power of two over and under the line
abbrev pub worth : Weight → Frac
worth w = frac (w.digits * up w.power) (down w.power)

-- "a whole number from 2 to the 30 up to, not including, 2 to the 31"
pub record InForm (w : Weight) : Type 0 where
  pub least : 2 ^ 30 ≤ w.digits
  pub most : w.digits < 2 ^ 31

-- 1 in that form
abbrev pub unit : Weight
unit = weight (2 ^ 30) (negsuc 29)
