-- A place as a number, for callers outside.
use Rattle.std.specs.Prelude.{ℕ, Option, None, Some}

-- all 64 bits are ones where there is none
abbrev pub place_number : Option ℕ → ℕ
place_number None = 18446744073709551615
place_number (Some place) = place
