-- Ranges of doubles, both ends included.
use Rattle.std.specs.Prelude.{Bool, ◌&&◌, Float}
use Rattle.std.specs.Float.Ieee.{le}
use Rattle.doubles.specs.Decimal.{Decimal, nearest}

-- a comparison with a NaN is false, so a NaN is in no range, and an infinity in none with finite ends
abbrev pub within : Float → Float → Float → Bool
within low high x = le low x && le x high

-- the range between two decimals
unfoldable pub in_range : Decimal → Decimal → Float → Bool
in_range low high x = within (nearest low) (nearest high) x
