-- Small sheets of rows, worked out by hand and computed from the definitions.
use Rattle.std.specs.Prelude.{List, [], ◌∷◌, ◌++◌, map, ◌≡◌, refl, ℕ, suc, pos, Float, replicate, true, false, Result, Ok, Err, Some, None}
use Rattle.std.specs.Float.{fin}
use Rattle.std.specs.Float.Ieee.{le}
use Rattle.doubles.specs.Decimal.{zero}
use Rattle.lists.specs.Find.{first_index}
use Rattle.lists.specs.Build.{tabulate, up_to}
use Rattle.statements.specs.Words.{word_at, spelled}
use Rattle.statements.specs.declared.grammar.Kind.{Kind}
use Rattle.statements.specs.declared.grammar.Kind.TheVariants.{Kelvin, Ambient, Strand, Quencher, Reporter, Position, EnergyGiven, EnergySequence, PairSequence, Penalty, Blocked, Celsius, Ring}
use Rattle.statements.specs.declared.statement.Row.{Row}
use Rattle.statements.specs.declared.words.Word.{Word}
use Rattle.sheet.specs.Rows.{places_from, rows_of}
use Rattle.sheet.specs.Faults.{is_name_twice, fault_of, fault_from, sheet_answer}
use Rattle.sheet.specs.Parts.{glue_at, bases_at, word_mark, pair_at, form_at, blocked_at, potential_at}
use Rattle.logarithm.specs.Near.{least_argument, most_argument}
use Rattle.logarithm.specs.Figure.{ln_of}
use Rattle.sheet.specs.Amounts.{potential_of, is_thin}
use Rattle.sheet.specs.Once.{strand_named, copied_of}
use Rattle.sheet.specs.declared.faults.Counts.{Counts}
use Rattle.sheet.specs.declared.faults.SheetFault.{SheetFault}
use Rattle.sheet.specs.declared.faults.SheetFault.TheVariants.{NameTwice, GivenTwice, TooMany, NoAmbient}
use Rattle.sheet.specs.declared.rows.Group.TheVariants as group

-- a row of a kind, with these words and numbers
abbrev pub row_of : Kind → ℕ → List Word → List Float → Row
row_of kind line words numbers = record { kind = kind; concentration = false; line = line; words = words; numbers = numbers }

-- no word
abbrev pub none : Word
none = word_at 0 0

-- ---- what is wrong

-- a kind, with the byte at a place of the text for its row's first word
pub record Entry : Type 0 where
  pub kind : Kind
  pub at : ℕ

infix 69 ◌at◌
-- `kind at place`, as the rows are written
abbrev pub ◌at◌ : Kind → ℕ → Entry
kind at place = record { kind = kind; at = place }

-- the rows, each with a line of its own, which are numbered from here on
unfoldable pub rows_from : ℕ → List Entry → List Row
rows_from line [] = []
rows_from line (entry ∷ rest) =
    row_of entry.kind line (word_at entry.at 1 ∷ none ∷ none ∷ none ∷ []) (replicate 3 zero) ∷ rows_from (suc line) rest

-- a text in which the byte at 0 stands once more at 100, and every byte before that once
abbrev pub text : List ℕ
text = up_to 100 ++ 0 ∷ []

-- what the definitions say of a sheet
abbrev pub answer_to : List Entry → Result Counts SheetFault
answer_to entries = sheet_answer text (rows_from 1 entries)

-- so many strands, positions and entries
abbrev pub counts : ℕ → ℕ → ℕ → Result Counts SheetFault
counts strands positions entries = Ok (record { strands = strands; positions = positions; entries = entries })

-- a sheet, and what is said of it
pub record Case : Type 0 where
  pub entries : List Entry
  pub answer : Result Counts SheetFault

infix 68 ◌is◌
-- `entries is answer`, as the cases are written
abbrev pub ◌is◌ : List Entry → Result Counts SheetFault → Case
entries is answer = record { entries = entries; answer = answer }

-- so many strands with names of their own
abbrev pub strands : ℕ → List Entry
strands n = tabulate n (λ k. Strand at k)

-- each fault, and each limit from both sides
abbrev pub cases : List Case
cases =
    [] is Err NoAmbient
    ∷ (Kelvin at 0 ∷ []) is counts 0 0 0
    ∷ (Strand at 0 ∷ Ambient at 0 ∷ Position at 1 ∷ Position at 1 ∷ EnergyGiven at 1 ∷ PairSequence at 1 ∷ Strand at 1 ∷ []) is counts 2 2 2
    ∷ (Strand at 0 ∷ Strand at 1 ∷ []) is Err NoAmbient
    ∷
    -- the three ways to give the ambient, and what is given once
    (Kelvin at 0 ∷ Strand at 0 ∷ Ambient at 0 ∷ []) is Err (GivenTwice 3 group.Ambient)
    ∷ (Celsius at 0 ∷ []) is counts 0 0 0
    ∷ (Celsius at 0 ∷ Kelvin at 0 ∷ []) is Err (GivenTwice 2 group.Ambient)
    ∷ (Ring at 0 ∷ Kelvin at 0 ∷ []) is counts 0 0 0
    ∷ (Ring at 0 ∷ Kelvin at 0 ∷ Ring at 0 ∷ []) is Err (GivenTwice 3 group.Ring)
    ∷ (Quencher at 0 ∷ Reporter at 0 ∷ Quencher at 1 ∷ []) is Err (GivenTwice 3 group.Quencher)
    ∷ (Penalty at 0 ∷ Penalty at 0 ∷ Kelvin at 0 ∷ []) is Err (GivenTwice 2 group.Penalty)
    ∷
    -- names with the same bytes at different places; the first row at fault counts
    (Kelvin at 0 ∷ Strand at 0 ∷ Position at 0 ∷ Strand at 100 ∷ []) is Err (NameTwice 4 (word_at 100 1))
    ∷ (Strand at 5 ∷ Strand at 5 ∷ Kelvin at 0 ∷ Kelvin at 0 ∷ []) is Err (NameTwice 2 (word_at 5 1))
    ∷ (Kelvin at 0 ∷ Kelvin at 0 ∷ Strand at 5 ∷ Strand at 5 ∷ []) is Err (GivenTwice 2 group.Ambient)
    ∷
    -- document 01's limits
    (Kelvin at 0 ∷ strands 61) is counts 61 0 0
    ∷ (Kelvin at 0 ∷ strands 62) is Err (TooMany 63 group.Strand)
    ∷ (strands 61 ++ Strand at 100 ∷ []) is Err (NameTwice 62 (word_at 100 1))
    ∷ (Kelvin at 0 ∷ replicate 128 (Position at 0)) is counts 0 128 0
    ∷ (replicate 129 (Position at 0)) is Err (TooMany 129 group.Position)
    ∷ (replicate 64 (Blocked at 0) ++ replicate 64 (Position at 0) ++ Kelvin at 0 ∷ []) is counts 0 128 0
    ∷ (replicate 128 (Position at 0) ++ Blocked at 0 ∷ []) is Err (TooMany 129 group.Position)
    ∷ []

-- the definitions say of each case what was worked out
pub as-worked-out : map (λ (c : Case). answer_to c.entries) cases ≡ map (λ (c : Case). c.answer) cases
unfolding sheet_answer fault_from fault_of is_name_twice rows_from tabulate spelled
as-worked-out = refl

-- ---- what is gathered

-- a strand with no bottom glue, a quencher that names it by the same byte at another place, a sequence for one glue and one for a pair
abbrev pub sample_text : List ℕ
sample_text = 97 ∷ replicate 8 32 ++ 97 ∷ []

-- a whole number as a double
abbrev pub whole : ℕ → Float
whole n = fin false n (pos 0)

-- the sample's rows
abbrev pub sample : List Row
sample =
    row_of Kelvin 1 (none ∷ none ∷ none ∷ none ∷ []) (whole 323 ∷ zero ∷ zero ∷ [])
    ∷ row_of Strand 2 (word_at 0 1 ∷ word_at 2 3 ∷ none ∷ word_at 6 2 ∷ []) (whole 5 ∷ zero ∷ zero ∷ [])
    ∷ row_of Quencher 3 (word_at 9 1 ∷ none ∷ none ∷ none ∷ []) (whole 7 ∷ zero ∷ zero ∷ [])
    ∷ row_of EnergySequence 4 (word_at 2 3 ∷ word_at 20 4 ∷ none ∷ none ∷ []) (zero ∷ zero ∷ zero ∷ [])
    ∷ row_of PairSequence 5 (word_at 2 3 ∷ word_at 6 2 ∷ word_at 30 5 ∷ none ∷ []) (zero ∷ zero ∷ zero ∷ [])
    ∷ []

-- which rows are strands
abbrev pub sample_strands : List ℕ
sample_strands = rows_of group.Strand sample

-- which rows are entries
abbrev pub sample_entries : List ℕ
sample_entries = rows_of group.Entry sample

-- three positions, of which the second is blocked
abbrev pub sample_scaffold : List Row
sample_scaffold = rows_from 1 (Kelvin at 0 ∷ Position at 0 ∷ Blocked at 0 ∷ Strand at 0 ∷ Position at 0 ∷ [])

-- what is gathered of the sample
pub record Gathered : Type 0 where
  pub strands : sample_strands ≡ 1 ∷ []
  pub entries : sample_entries ≡ 3 ∷ 4 ∷ []
  pub glues : tabulate 3 (λ m. (glue_at sample sample_strands m).start) ≡ 2 ∷ 0 ∷ 6 ∷ []
  pub marks : tabulate 3 (λ m. word_mark (glue_at sample sample_strands m)) ≡ 1 ∷ 0 ∷ 1 ∷ []
  pub bases : tabulate 2 (λ m. (bases_at sample sample_entries m).start) ≡ 20 ∷ 30 ∷ []
  pub pairs : tabulate 2 (pair_at sample sample_entries) ≡ 0 ∷ 1 ∷ []
  pub forms : tabulate 2 (form_at sample sample_entries) ≡ 1 ∷ 1 ∷ []
  pub potentials : tabulate 4 (potential_at sample sample_strands) ≡ zero ∷ whole 5 ∷ whole 7 ∷ zero ∷ []
  pub copied : copied_of group.Quencher sample_text sample sample_strands ≡ Some 1
  pub nothing : copied_of group.Reporter sample_text sample sample_strands ≡ None
  pub blocks : tabulate 3 (blocked_at sample_scaffold (rows_of group.Position sample_scaffold)) ≡ 0 ∷ 1 ∷ 0 ∷ []

-- the definitions gather what was worked out
pub gathered : Gathered
unfolding places_from rows_from first_index tabulate spelled potential_at strand_named
gathered =
    record {
      strands = refl;
      entries = refl;
      glues = refl;
      marks = refl;
      bases = refl;
      pairs = refl;
      forms = refl;
      potentials = refl;
      copied = refl;
      nothing = refl;
      blocks = refl;
    }

-- ---- amounts

-- a strand with this concentration in mol/l
abbrev pub concentrated : Float → Row
concentrated x = record { kind = Strand; concentration = true; line = 1; words = []; numbers = x ∷ zero ∷ zero ∷ [] }

-- 0 and 1025 mol/l have no logarithm and give 0.0, 1024 has one; that of 1 mol/l is 0.0
pub record Amounts : Type 0 where
  pub none : is_thin (concentrated zero) ≡ true
  pub none_read : potential_of (concentrated zero) ≡ zero
  pub most : is_thin (concentrated (whole 1024)) ≡ false
  pub more : is_thin (concentrated (whole 1025)) ≡ true
  pub one : potential_of (concentrated (whole 1)) ≡ zero

-- the definitions read them so
pub amounts : Amounts
unfolding least_argument most_argument ln_of le
amounts = record { none = refl; none_read = refl; most = refl; more = refl; one = refl }
