-- What stands in the file at most once: the ambient, the junction penalty, quencher, reporter and `ring`.
use Rattle.std.specs.Prelude.{Bool, cond, List, ℕ, suc, eqb, ltb, Float, length, Option, None, Some}
use Rattle.std.specs.Float.{binary64}
use Rattle.std.specs.Float.Ieee.{add}
use Rattle.doubles.specs.Decimal.{nearest, plus}
use Rattle.lists.specs.Find.{first_index}
use Rattle.statements.specs.Layout.{row_word, row_number, word_in}
use Rattle.statements.specs.declared.grammar.Kind.{Kind}
use Rattle.statements.specs.declared.grammar.Kind.TheVariants as kind
use Rattle.statements.specs.declared.statement.Row.{Row}
use Rattle.statements.specs.declared.words.Word.{Word}
use Rattle.sheet.specs.Rows.{first_of}
use Rattle.sheet.specs.Faults.{same_word}
use Rattle.sheet.specs.declared.once.Ambient.{Ambient}
use Rattle.sheet.specs.declared.once.Ambient.TheVariants.{At, Given}
use Rattle.sheet.specs.declared.rows.Group.{Group}
use Rattle.sheet.specs.declared.rows.Group.TheVariants as group

-- number j of the first row of a group, 0.0 where there is none
abbrev pub number_once : Group → List Row → ℕ → Float
number_once group rows j = row_number (first_of group rows) j

-- the kelvin of a temperature in degrees Celsius: one rounded sum
unfoldable pub kelvin_of : Float → Float
unfolding nearest
kelvin_of celsius = add binary64 celsius (nearest (plus 27315 2))

-- the ambient of a row by its kind: at its kelvin, at those of its degrees Celsius, or with its RT, strand excess and scaffold excess
abbrev pub ambient_by : Kind → Row → Ambient
ambient_by kind.Kelvin row = At (record { 0 = row_number (Some row) 0 })
ambient_by kind.Celsius row = At (record { 0 = kelvin_of (row_number (Some row) 0) })
ambient_by other row =
    Given (record { rt = record { 0 = row_number (Some row) 0 }; strand_excess = record { 0 = row_number (Some row) 1 }; scaffold_excess = record { 0 = row_number (Some row) 2 } })

-- of a row that may be there
abbrev pub ambient_in : Option Row → Option Ambient
ambient_in None = None
ambient_in (Some row) = Some (ambient_by row.kind row)

-- the ambient
abbrev pub ambient_of : List Row → Option Ambient
ambient_of rows = ambient_in (first_of group.Ambient rows)

-- a strand's row has a word for its name
abbrev pub is_named : List ℕ → List Row → Word → ℕ → Bool
is_named text rows name row = same_word text name (word_in rows row 0)

-- the number of the strand with a name, among the strands' rows: they count from 1, and it is 0 where none has the name
unfoldable pub strand_named : List ℕ → List Row → List ℕ → Word → ℕ
strand_named text rows chosen name =
    cond (ltb (first_index (is_named text rows name) chosen) (length chosen)) (suc (first_index (is_named text rows name) chosen)) 0

-- whose glues one with this word for its strand copies; `-` is a word of size 0
abbrev pub copied_from : List ℕ → List Row → List ℕ → Word → Option ℕ
copied_from text rows chosen name = cond (eqb name.size 0) None (Some (strand_named text rows chosen name))

-- of a row that may be there
abbrev pub copied_in : List ℕ → List Row → List ℕ → Option Row → Option ℕ
copied_in text rows chosen None = None
copied_in text rows chosen (Some row) = copied_from text rows chosen (row_word (Some row) 0)

-- whose glues the quencher or the reporter copies: nobody's where the statement is missing, or has `-` for its strand
abbrev pub copied_of : Group → List ℕ → List Row → List ℕ → Option ℕ
copied_of group text rows chosen = copied_in text rows chosen (first_of group rows)
