-- What it is for a whole number to be the nearest to a fraction, and that the printed millionths are.
use Rattle.std.specs.Prelude.{◌≡◌, ◌⊎◌, ℕ, ◌+◌, ◌*◌, ◌%◌, ◌^◌, ◌≤◌, Float}
use Rattle.std.specs.Float.{binary64}
use Rattle.doubles.specs.Size.{mag}
use Rattle.decimals.specs.Print.{millionths}

-- n is no more than a half away from a / b, and even where it is a half away
pub record NearestTo (a b n : ℕ) : Type 0 where
  pub above : 2 * (n * b) ≤ 2 * a + b
  pub below : 2 * a ≤ 2 * (n * b) + b
  pub tie : (2 * (n * b) ≡ 2 * a + b) ⊎ (2 * a ≡ 2 * (n * b) + b) → n % 2 ≡ 0

-- |x| is `mag` units of 2 ^ -1074, a million times that is what is rounded
abbrev pub MillionthsNearest : Type 0
MillionthsNearest = (x : Float) → NearestTo (mag binary64 x * 10 ^ 6) (2 ^ 1074) (millionths x)
