-- How large a double is, in units of its format's smallest value: for a value that the format holds, a whole number.
use Rattle.std.specs.Prelude.{Bool, false, ◌&&◌, ℕ, ◌*◌, ◌/◌, ◌^◌, ◌≤◌, T, eqb, Float}
use Rattle.std.specs.Float.{nan, inf, fin, Format}
use Rattle.std.specs.Float.Ieee.{low, up, down, fits}
use Rattle.std.specs.Float.Ieee.Scale.{finite, overflow}

-- whether the sign is minus; a NaN counts as plus
unfoldable pub sgn : Float → Bool
sgn nan = false
sgn (inf s) = s
sgn (fin s m e) = s

-- an infinity and a NaN count as the first number that is too large
unfoldable pub mag : Format → Float → ℕ
mag f nan = overflow f
mag f (inf s) = overflow f
mag f (fin s m e) = m * up e * 2 ^ low f / down e

-- finite, and held by the format
pub record Real (f : Format) (x : Float) : Type 0 where
  pub fit : T (fits f x)
  pub fini : T (finite x)

-- finite, held by the format, and at most a whole number in size
pub record Within (f : Format) (most : ℕ) (x : Float) : Type 0 where
  pub real : Real f x
  pub size : mag f x ≤ most * 2 ^ low f

-- −0.0
unfoldable pub negative_zero : Float → Bool
negative_zero nan = false
negative_zero (inf s) = false
negative_zero (fin s m e) = s && eqb m 0
