-- What is wrong with a file whose every line can be read: a strand's name used twice, a statement given twice, more than document 01's limits,
-- no ambient. The first row in the file's order counts, and the missing ambient only where no row is at fault.
use Rattle.std.specs.Prelude.{Bool, cond, ◌&&◌, List, [], ◌∷◌, ◌++◌, ℕ, eqb, ltb, Option, None, Some, Result, Ok, Err}
use Rattle.std.specs.List.{list_any}
use Rattle.std.specs.Str.{bytes_eq}
use Rattle.statements.specs.Layout.{row_word}
use Rattle.statements.specs.Words.{spelled}
use Rattle.statements.specs.declared.statement.Row.{Row}
use Rattle.statements.specs.declared.words.Word.{Word}
use Rattle.sheet.specs.Rows.{group_of, is_of, count_of, first_of}
use Rattle.sheet.specs.declared.faults.Counts.{Counts}
use Rattle.sheet.specs.declared.faults.SheetFault.{SheetFault}
use Rattle.sheet.specs.declared.faults.SheetFault.TheVariants.{NameTwice, GivenTwice, TooMany, NoAmbient}
use Rattle.sheet.specs.declared.rows.Group.{Group}
use Rattle.sheet.specs.declared.rows.Group.TheVariants.{Ambient, Strand, Position, Entry}

-- ---- limits

-- "user strands in a build 0 to 61", "scaffold 0 to 128 positions", "energy entries 1,024"; anything else is given once
abbrev pub limit_of : Group → ℕ
limit_of Strand = 61
limit_of Position = 128
limit_of Entry = 1024
limit_of group = 1

-- ---- names of strands

-- two words of the text have the same bytes
abbrev pub same_word : List ℕ → Word → Word → Bool
same_word text a b = bytes_eq (spelled text a) (spelled text b)

-- the word for its name, of a strand
abbrev pub name_of : Row → Word
name_of row = row_word (Some row) 0

-- a row is a strand with a name
abbrev pub has_name : List ℕ → Word → Row → Bool
has_name text name row = is_of Strand row && same_word text name (name_of row)

-- a row is a strand with the name of one before it
unfoldable pub is_name_twice : List ℕ → List Row → Row → Bool
is_name_twice text before row = is_of Strand row && list_any (has_name text (name_of row)) before

-- ---- the answer

-- what is wrong with a row that comes after others: its name, or that there are already as many of its group as there may be
unfoldable pub fault_of : List ℕ → List Row → Row → Result Unit SheetFault
fault_of text before row =
    cond (is_name_twice text before row) (Err (NameTwice row.line (name_of row)))
    (cond (ltb (count_of (group_of row.kind) before) (limit_of (group_of row.kind))) (Ok tt)
    (cond (eqb (limit_of (group_of row.kind)) 1) (Err (GivenTwice row.line (group_of row.kind)))
    (Err (TooMany row.line (group_of row.kind)))))

-- what comes after, unless a row is at fault; `and_then` of `statements` is over that crate's faults
abbrev pub and_then : {A : Type 0} → Result Unit SheetFault → Result A SheetFault → Result A SheetFault
and_then (Ok done) after = after
and_then (Err fault) after = Err fault

-- the first row at fault, of those that come after some
unfoldable pub fault_from : List ℕ → List Row → List Row → Result Unit SheetFault
fault_from text before [] = Ok tt
fault_from text before (row ∷ rest) = and_then (fault_of text before row) (fault_from text (before ++ row ∷ []) rest)

-- how many strands, positions and entries there are
abbrev pub counts_of : List Row → Counts
counts_of rows = record { strands = count_of Strand rows; positions = count_of Position rows; entries = count_of Entry rows }

-- these, where the ambient is given
abbrev pub counts_if : Option Row → List Row → Result Counts SheetFault
counts_if None rows = Err NoAmbient
counts_if (Some row) rows = Ok (counts_of rows)

-- what is wrong with a file's rows, or how many strands, positions and entries there are
unfoldable pub sheet_answer : List ℕ → List Row → Result Counts SheetFault
sheet_answer text rows = and_then (fault_from text [] rows) (counts_if (first_of Ambient rows) rows)
