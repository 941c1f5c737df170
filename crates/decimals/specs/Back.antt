-- What is printed is read back.
use Rattle.std.specs.Prelude.{List, ◌∷◌, ◌≡◌, ℕ, ◌^◌, ◌<◌, Ok}
use Rattle.std.specs.Float.{binary64}
use Rattle.std.specs.Float.Ieee.{of_bits}
use Rattle.decimals.specs.Digits.{digits_in}
use Rattle.decimals.specs.Number.{number_of}

-- 0x before the 16 hexadecimal digits of a double's bits
abbrev pub pattern_of : ℕ → List ℕ
pattern_of bits = 48 ∷ 120 ∷ digits_in 16 16 bits

-- is a word that stands for that double
abbrev pub PatternReadBack : Type 0
PatternReadBack = (bits : ℕ) → bits < 2 ^ 64 → number_of (pattern_of bits) ≡ Ok (of_bits binary64 bits)
