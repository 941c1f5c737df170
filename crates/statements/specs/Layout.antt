-- The fields of a row, by its kind (Grammar.antt has the kinds):
--
--     kind              words 0 to 3                 numbers 0 to 2
--     Kelvin                                         kelvin
--     Ambient                                        RT, strand excess, scaffold excess
--     Strand            name, west, bottom, east     amount
--     Quencher          strand                       amount
--     Reporter          strand                       amount
--     Position          glue
--     EnergyGiven       glue                         dG, dS
--     EnergySequence    glue, bases
--     PairGiven         glue, glue                   dG, dS
--     PairSequence      glue, glue, bases
--     Penalty                                        dG, dS
--     Blocked           glue
--     Celsius                                        degrees Celsius
--     Ring
--
-- An amount is a concentration in mol/l where the row's mark says so, and else a potential.
use Rattle.std.specs.Prelude.{List, ℕ, Option, None, Some, slice_get, get_or, Float}
use Rattle.doubles.specs.Decimal.{zero}
use Rattle.statements.specs.Words.{word_at}
use Rattle.statements.specs.declared.words.Word.{Word}
use Rattle.statements.specs.declared.statement.Row.{Row}

-- word j of a row, by its start and size in the text; a size of 0 where it is absent (`-`), or the kind has none
abbrev pub row_word : Option Row → ℕ → Word
row_word None j = word_at 0 0
row_word (Some row) j = get_or row.words j (word_at 0 0)

-- the same of row i of a list
abbrev pub word_in : List Row → ℕ → ℕ → Word
word_in rows i j = row_word (slice_get rows i) j

-- number j of a row; 0.0 where the kind has none
abbrev pub row_number : Option Row → ℕ → Float
row_number None j = zero
row_number (Some row) j = get_or row.numbers j zero

-- the same of row i of a list
abbrev pub number_in : List Row → ℕ → ℕ → Float
number_in rows i j = row_number (slice_get rows i) j
