-- What it is for a weight to lie near the exponential of a double; and which doubles are taken.
use Rattle.std.specs.Prelude.{Bool, true, false, ◌≡◌, ℕ, ◌*◌, ◌<◌, pos, negsuc, Float}
use Rattle.std.specs.Int.Signed.{le_z}
use Rattle.std.specs.Float.{fin, binary64}
use Rattle.std.specs.Float.Ieee.{round, lt}
use Rattle.std.specs.Float.Ieee.Positive.{num, den}
use Rattle.fractions.specs.Frac.{Frac, times, LeFrac}
use Rattle.fractions.specs.Number.{less_part, more_part}
use Rattle.fractions.specs.Weight.{worth, InForm, unit}
use Rattle.fractions.specs.declared.Weight.{Weight}
use Rattle.doubles.specs.Range.{within}
use Rattle.exponential.specs.Exponential.{exponential}

-- w lies within one part in 2^24 of exp (± p / q), at every n at which the bounds are fractions
pub record ExpNear (sign : Bool) (p q : ℕ) (w : Frac) : Type 0 where
  pub reached : (n : ℕ) → p < n * q → LeFrac (times (less_part 24) ((exponential sign p q).lower n)) w
  pub kept : (n : ℕ) → p < n * q → LeFrac w (times (more_part 24) ((exponential sign p q).upper n))

-- 0
abbrev pub zero_float : Float
zero_float = fin false 0 (pos 0)

-- a weight in its form, with an exponent from −400,000 to 400,000, within one part in 2^24 of the exponential of the double x, which is ± num / den;
-- that of 0, and of −0, is 1
pub record ExpOf (x : Float) (w : Weight) : Type 0 where
  pub in_form : InForm w
  pub exponent : (le_z (negsuc 399999) w.power ≡ true) × (le_z w.power (pos 400000) ≡ true)
  pub near : ExpNear (lt x zero_float) (num x) (den x) (worth w)
  pub one : num x ≡ 0 → w ≡ unit

-- "doubles up to 80,000 in size, either sign"
unfoldable pub least_argument : Float
unfolding round
least_argument = round binary64 true 80000 1

unfoldable pub most_argument : Float
unfolding round
most_argument = round binary64 false 80000 1

-- both ends included; no NaN and no infinity is among them
abbrev pub has_exponential : Float → Bool
has_exponential x = within least_argument most_argument x
