-- What it is for a fraction, and for a double, to lie near a logarithm; and which doubles have one.
use Rattle.std.specs.Prelude.{Bool, true, false, ◌≡◌, ℕ, ◌*◌, ◌^◌, ◌<◌, T, pos, Float}
use Rattle.std.specs.Float.{nan, inf, fin, binary64}
use Rattle.std.specs.Float.Ieee.{round, up, down, fits}
use Rattle.std.specs.Float.Ieee.Scale.{finite}
use Rattle.std.specs.Float.Ieee.Positive.{num, den}
use Rattle.fractions.specs.Frac.{Frac, frac, none, plus, LeFrac}
use Rattle.doubles.specs.Range.{within}
use Rattle.doubles.specs.Size.{Within}
use Rattle.logarithm.specs.Logarithm.{lower, upper}
use Rattle.logarithm.specs.Figure.{ln_of}

-- p − q lies within e of ln (a / b), read off sums with no sign. The bounds of ln (a / b) are empty where a ≤ b, and those of ln (b / a), which is minus
-- the same, where b ≤ a: so |(p − q) − ln (a / b)| ≤ e on either side of 1, at every n.
pub record LnNear (a b : ℕ) (p q e : Frac) : Type 0 where
  pub reached : (n : ℕ) → 0 < n → LeFrac (plus (lower a b n) q) (plus (plus p e) (upper b a n))
  pub kept : (n : ℕ) → 0 < n → LeFrac (plus p (lower b a n)) (plus (plus q e) (upper a b n))

-- how far a double lies over zero
abbrev pub over_zero : Float → Frac
over_zero nan = none
over_zero (inf s) = none
over_zero (fin false m e) = frac (m * up e) (down e)
over_zero (fin true m e) = none

-- and how far under
abbrev pub under_zero : Float → Frac
under_zero nan = none
under_zero (inf s) = none
under_zero (fin false m e) = none
under_zero (fin true m e) = frac (m * up e) (down e)

-- r is finite, and lies within 2^-40 of the natural logarithm of the positive double x, which is num / den
pub record LnOf (x r : Float) : Type 0 where
  pub whole : T (finite r)
  pub near : LnNear (num x) (den x) (over_zero r) (under_zero r) (frac 1 (2 ^ 40))

-- "doubles from 2 to the −60"
unfoldable pub least_argument : Float
unfolding round
least_argument = round binary64 false 1 (2 ^ 60)

-- "up to 2 to the 10"
unfoldable pub most_argument : Float
unfolding round
most_argument = round binary64 false (2 ^ 10) 1

-- both ends included; no NaN, no infinity, nothing that is not above zero is among them
abbrev pub has_logarithm : Float → Bool
has_logarithm x = within least_argument most_argument x

-- the figure is near the logarithm, for every double between those ends; proofs/Right.antt shows it
abbrev pub Logarithms : Type 0
Logarithms = (x : Float) → T (fits binary64 x) → has_logarithm x ≡ true → LnOf x (ln_of x)

-- it is at most 128 in size, far within document 01's range of a potential; proofs/Sized.antt shows it
abbrev pub LogarithmsSmall : Type 0
LogarithmsSmall = (x : Float) → T (fits binary64 x) → has_logarithm x ≡ true → Within binary64 128 (ln_of x)

-- that of 1 is 0.0
abbrev pub LogarithmOfOne : Type 0
LogarithmOfOne = ln_of (fin false 1 (pos 0)) ≡ fin false 0 (pos 0)
