-- How near values lie to each other, in units of a format's smallest value, the units of `over` and `under`. A value is its `over` less its `under`, so
-- that a difference is read off sums, with no sign: x − y ≤ d is over x + under y ≤ under x + over y + d.
use Rattle.std.specs.Prelude.{ℕ, ◌+◌, ◌-◌, ◌*◌, ◌^◌, ◌≤◌, Float}
use Rattle.std.specs.Float.{Format}
use Rattle.std.specs.Float.Ieee.{low}
use Rattle.doubles.specs.Size.{Real}
use Rattle.doubles.specs.Order.{over, under}

-- 2⁻ⁿ
abbrev pub two_to_minus : Format → ℕ → ℕ
two_to_minus f n = 2 ^ (low f - n)

-- both finite, and x ≤ y + d
pub record AtMost (f : Format) (d : ℕ) (x y : Float) : Type 0 where
  pub left : Real f x
  pub right : Real f y
  pub above : over f x + under f y ≤ under f x + over f y + d

-- both finite, and |x − y| ≤ d
pub record Near (f : Format) (d : ℕ) (x y : Float) : Type 0 where
  pub left : Real f x
  pub right : Real f y
  pub above : over f x + under f y ≤ under f x + over f y + d
  pub below : over f y + under f x ≤ under f y + over f x + d

-- |x − (p − n)| ≤ d, against a whole number of units
pub record NearUnits (f : Format) (d : ℕ) (x : Float) (p n : ℕ) : Type 0 where
  pub above : over f x + n ≤ under f x + p + d
  pub below : under f x + p ≤ over f x + n + d

-- |x − (p − n) / c| ≤ d, against a fraction; one is 2 ^ low units
pub record NearFraction (f : Format) (d : ℕ) (x : Float) (p n c : ℕ) : Type 0 where
  pub above : over f x * c + n * 2 ^ low f ≤ under f x * c + p * 2 ^ low f + d * c
  pub below : under f x * c + p * 2 ^ low f ≤ over f x * c + n * 2 ^ low f + d * c
