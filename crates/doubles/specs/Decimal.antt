-- Decimals as papers print them, and the double that stands for one.
use Rattle.std.specs.Prelude.{Bool, true, false, ℕ, ◌^◌, pos, Float}
use Rattle.std.specs.Float.{fin, binary64}
use Rattle.std.specs.Float.Ieee.{round}

-- digits / 10 ^ places, below zero where `negative`
pub record Decimal : Type 0 where
  pub negative : Bool
  pub digits : ℕ
  pub places : ℕ

-- 1.96 is `plus 196 2`
abbrev pub plus : ℕ → ℕ → Decimal
plus digits places = record { negative = false; digits = digits; places = places }

-- −0.0057 is `minus 57 4`
abbrev pub minus : ℕ → ℕ → Decimal
minus digits places = record { negative = true; digits = digits; places = places }

-- the double nearest to a decimal, which is what it is written as in a program
unfoldable pub nearest : Decimal → Float
unfolding round
nearest d = round binary64 d.negative d.digits (10 ^ d.places)

-- 0.0
abbrev pub zero : Float
zero = fin false 0 (pos 0)
