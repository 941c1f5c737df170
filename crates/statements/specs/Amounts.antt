-- The amount of a strand: its potential, which is a NUMBER, or its concentration in mol/l, which is a decimal with a unit behind it and no blank between.
use Rattle.std.specs.Prelude.{Bool, true, false, List, [], ◌∷◌, ℕ, ◌-◌, eqb, length, take, Float, Option, None, Some, Result, Ok, Err}
use Rattle.std.specs.List.{find, ends_with}
use Rattle.std.specs.Option.{option_map}
use Rattle.decimals.specs.Number.{number_of, scaled_of}
use Rattle.decimals.specs.declared.NumberFault.{NumberFault}
use Rattle.statements.specs.declared.amounts.Amount.{Amount}

-- the bytes of a unit, and the power of ten by which it is smaller than mol/l: mM, uM (also with U+00B5 and with U+03BC for its u), nM, pM, fM, and M
abbrev pub units : List (List ℕ × ℕ)
units =
    (109 ∷ 77 ∷ [], 3)
    ∷ (117 ∷ 77 ∷ [], 6)
    ∷ (194 ∷ 181 ∷ 77 ∷ [], 6)
    ∷ (206 ∷ 188 ∷ 77 ∷ [], 6)
    ∷ (110 ∷ 77 ∷ [], 9)
    ∷ (112 ∷ 77 ∷ [], 12)
    ∷ (102 ∷ 77 ∷ [], 15)
    ∷ (77 ∷ [], 0)
    ∷ []

-- the first of them with which a word ends: how many bytes it has, and its power
unfoldable pub unit_of : List ℕ → Option (ℕ × ℕ)
unit_of word =
    option_map (λ (unit : List ℕ × ℕ). (length unit.0, unit.1)) (find (λ (unit : List ℕ × ℕ). ends_with eqb word unit.0) units)

-- a number as an amount
abbrev pub amount_in : Bool → Result Float NumberFault → Result Amount NumberFault
amount_in concentration (Ok number) = Ok (record { number = number; concentration = concentration })
amount_in concentration (Err fault) = Err fault

-- a word that ends with a unit is a concentration by the decimal before it, any other a potential
abbrev pub amount_by : Option (ℕ × ℕ) → List ℕ → Result Amount NumberFault
amount_by None word = amount_in false (number_of word)
amount_by (Some unit) word = amount_in true (scaled_of (take (length word - unit.0) word) unit.1)

-- the amount that a word stands for
unfoldable pub amount_of : List ℕ → Result Amount NumberFault
amount_of word = amount_by (unit_of word) word
