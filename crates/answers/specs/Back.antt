-- What is printed of a double's bits is read back.
use Rattle.std.specs.Prelude.{◌∷◌, ◌≡◌, ℕ, ◌^◌, ◌<◌, Ok}
use Rattle.std.specs.Float.{binary64}
use Rattle.std.specs.Float.Ieee.{of_bits}
use Rattle.decimals.specs.Number.{number_of}
use Rattle.answers.specs.Text.{hex_text}

-- 0x before the 16 hexadecimal digits that are printed of a double's bits is a word that stands for that double
abbrev pub ShownReadBack : Type 0
ShownReadBack = (bits : ℕ) → bits < 2 ^ 64 → number_of (48 ∷ 120 ∷ hex_text 16 bits) ≡ Ok (of_bits binary64 bits)
