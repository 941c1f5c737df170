-- Rows of a design file, as crate `statements` reads them: rows by what they stand for, and lists of rows.
use Rattle.std.specs.Prelude.{Bool, cond, List, [], ◌∷◌, ℕ, ◌+◌, Float, Option, slice_get}
use Rattle.std.specs.List.{count_by, find}
use Rattle.std.specs.Option.{option_map, option_and_then}
use Rattle.statements.specs.Layout.{row_word, row_number}
use Rattle.statements.specs.declared.grammar.Kind.{Kind}
use Rattle.statements.specs.declared.grammar.Kind.TheVariants as kind
use Rattle.statements.specs.declared.statement.Row.{Row}
use Rattle.statements.specs.declared.words.Word.{Word}
use Rattle.sheet.specs.declared.rows.Group.{Group}
use Rattle.sheet.specs.declared.rows.Group.TheVariants.{Ambient, Strand, Quencher, Reporter, Position, Entry, Penalty, Ring}
use Rattle.sheet.specs.contracts.rows.GroupPartialEq.TheImpl as same

-- ---- groups of kinds

-- Kinds of one group stand for the same thing: the three ways to give the ambient, open and blocked positions, and the four kinds of entries.
-- Every other kind is a group by itself.
abbrev pub group_of : Kind → Group
group_of kind.Kelvin = Ambient
group_of kind.Celsius = Ambient
group_of kind.Ambient = Ambient
group_of kind.Strand = Strand
group_of kind.Quencher = Quencher
group_of kind.Reporter = Reporter
group_of kind.Position = Position
group_of kind.Blocked = Position
group_of kind.EnergyGiven = Entry
group_of kind.EnergySequence = Entry
group_of kind.PairGiven = Entry
group_of kind.PairSequence = Entry
group_of kind.Penalty = Penalty
group_of kind.Ring = Ring

-- a row is one of a group
abbrev pub is_of : Group → Row → Bool
is_of group row = (same.ghosts).eq (group_of row.kind) group

-- how many rows are of a group
abbrev pub count_of : Group → List Row → ℕ
count_of group rows = count_by (is_of group) rows

-- the first of them
abbrev pub first_of : Group → List Row → Option Row
first_of group rows = find (is_of group) rows

-- the places of a group's rows, in order, where the first row has this place
unfoldable pub places_from : Group → ℕ → List Row → List ℕ
places_from group at [] = []
places_from group at (row ∷ rest) = cond (is_of group row) (at ∷ places_from group (at + 1) rest) (places_from group (at + 1) rest)

-- the places of all rows of a group
abbrev pub rows_of : Group → List Row → List ℕ
rows_of group rows = places_from group 0 rows

-- ---- what stands in the rows of a list; there is none past its end

-- row k of the list
abbrev pub row_among : List Row → List ℕ → ℕ → Option Row
row_among rows chosen k = option_and_then (slice_get rows) (slice_get chosen k)

-- its word j
abbrev pub word_among : List Row → List ℕ → ℕ → ℕ → Word
word_among rows chosen k j = row_word (row_among rows chosen k) j

-- its number j
abbrev pub number_among : List Row → List ℕ → ℕ → ℕ → Float
number_among rows chosen k j = row_number (row_among rows chosen k) j

-- its kind
abbrev pub kind_among : List Row → List ℕ → ℕ → Option Kind
kind_among rows chosen k = option_map (λ (row : Row). row.kind) (row_among rows chosen k)
