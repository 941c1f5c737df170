-- The order of the finite values that a format holds. A value is two whole numbers, in units of the format's smallest value: how far it lies
-- over zero, and how far under; one of the two is 0. x ≤ y is then an order of numbers, with no sign and no product. −0.0 and 0.0 are equal in it.
use Rattle.std.specs.Prelude.{Bool, true, false, ℕ, ◌≤◌, Float}
use Rattle.std.specs.Float.{Format}
use Rattle.doubles.specs.Size.{sgn, mag}

-- how far ±a lies over zero; `true` is minus
abbrev pub over_part : Bool → ℕ → ℕ
over_part false a = a
over_part true a = 0

-- how far ±a lies under zero
abbrev pub under_part : Bool → ℕ → ℕ
under_part false a = 0
under_part true a = a

-- how far x lies over zero
unfoldable pub over : Format → Float → ℕ
over f x = over_part (sgn x) (mag f x)

-- how far x lies under zero
unfoldable pub under : Format → Float → ℕ
under f x = under_part (sgn x) (mag f x)

-- y lies no less over zero than x, and no more under it
pub record Le (f : Format) (x y : Float) : Type 0 where
  pub rise : over f x ≤ over f y
  pub fall : under f y ≤ under f x
