-- A weight as a double: rounded once, and 0.0 of zero alone.
use Rattle.std.specs.Prelude.{◌≡◌, cond, true, false, ◌*◌, ◌<◌, eqb, Float}
use Rattle.std.specs.Float.{binary64}
use Rattle.std.specs.Float.Ieee.{round, of_bits, lt, up, down}
use Rattle.exponential.specs.Near.{zero_float}
use Rattle.fractions.specs.declared.Weight.{Weight}

-- the double nearest to what a weight is worth, and infinity past the largest
abbrev pub nearest_double : Weight → Float
nearest_double w = round binary64 false (w.digits * up w.power) (down w.power)

-- the smallest double above 0
abbrev pub least_double : Float
least_double = of_bits binary64 1

-- 0.0 where the weight is zero; the nearest double else, or the smallest above 0 where that would be 0.0
unfoldable pub double_of : Weight → Float
unfolding round of_bits
double_of w = cond (eqb w.digits 0) zero_float (cond (lt (nearest_double w) least_double) least_double (nearest_double w))

-- 0.0 is the double of zero alone
abbrev pub ZeroAlone : Type 0
ZeroAlone = (w : Weight) → 0 < w.digits → lt zero_float (double_of w) ≡ true
