-- What the calls take of lists of rows: a lent slice is filled to its end, entry m as these definitions say.
use Rattle.std.specs.Prelude.{Bool, true, false, cond, List, [], ◌∷◌, ℕ, ◌+◌, ◌-◌, ◌/◌, ◌%◌, eqb, ltb, Float, length, get_or, Option, Some}
use Rattle.doubles.specs.Decimal.{zero}
use Rattle.statements.specs.declared.grammar.Kind.{Kind}
use Rattle.statements.specs.declared.grammar.Kind.TheVariants as kind
use Rattle.statements.specs.declared.statement.Row.{Row}
use Rattle.statements.specs.declared.words.Word.{Word}
use Rattle.sheet.specs.Rows.{first_of, row_among, word_among, number_among, kind_among}
use Rattle.sheet.specs.Amounts.{potential_in}
use Rattle.sheet.specs.declared.rows.Group.TheVariants.{Quencher, Reporter}

-- ---- kinds

-- the kind is an entry's for a pair of names
abbrev pub is_pair : Option Kind → Bool
is_pair (Some kind.PairGiven) = true
is_pair (Some kind.PairSequence) = true
is_pair other = false

-- the kind is an entry's with a sequence
abbrev pub is_sequence : Option Kind → Bool
is_sequence (Some kind.EnergySequence) = true
is_sequence (Some kind.PairSequence) = true
is_sequence other = false

-- the kind is a blocked position's
abbrev pub is_blocked : Option Kind → Bool
is_blocked (Some kind.Blocked) = true
is_blocked other = false

-- ---- words

-- glue m of strands, which have three each: west, bottom and east
abbrev pub glue_at : List Row → List ℕ → ℕ → Word
glue_at rows chosen m = word_among rows chosen (m / 3) (1 + m % 3)

-- the name of strand m, the glue of position m, or the first glue of entry m
abbrev pub first_at : List Row → List ℕ → ℕ → Word
first_at rows chosen m = word_among rows chosen m 0

-- the second glue of entry m
abbrev pub second_at : List Row → List ℕ → ℕ → Word
second_at rows chosen m = word_among rows chosen m 1

-- the bases of entry m, which stand after its one or two names
abbrev pub bases_at : List Row → List ℕ → ℕ → Word
bases_at rows chosen m = word_among rows chosen m (cond (is_pair (kind_among rows chosen m)) 2 1)

-- ---- marks

-- the mark of what is there, and of what is not
abbrev pub mark_of : Bool → ℕ
mark_of holds = cond holds 1 0

-- a word is there: 1; a size of 0 is that of no word
abbrev pub word_mark : Word → ℕ
word_mark word = mark_of (ltb 0 word.size)

-- an entry is for a pair of names: 1
abbrev pub pair_at : List Row → List ℕ → ℕ → ℕ
pair_at rows chosen m = mark_of (is_pair (kind_among rows chosen m))

-- an entry gives a sequence: 1
abbrev pub form_at : List Row → List ℕ → ℕ → ℕ
form_at rows chosen m = mark_of (is_sequence (kind_among rows chosen m))

-- a position is blocked: 1
abbrev pub blocked_at : List Row → List ℕ → ℕ → ℕ
blocked_at rows chosen m = mark_of (is_blocked (kind_among rows chosen m))

-- ---- rows, as `from_params` takes them

-- a word as a row of three: its mark, its start, its size
abbrev pub name_row : Word → List ℕ
name_row word = word_mark word ∷ word.start ∷ word.size ∷ []

-- of such a row, number k of rows of three
abbrev pub name_number : Word → ℕ → ℕ
name_number word k = get_or (name_row word) (k % 3) 0

-- number k of rows of three, one behind the other
unfoldable pub name_number_at : (ℕ → Word) → ℕ → ℕ
name_number_at words k = name_number (words (k / 3)) k

-- entry m as a row of eight: start and size of the first name; mark, start and size of the second; form, start and size of the bases
abbrev pub entry_row : List Row → List ℕ → ℕ → List ℕ
entry_row rows chosen m =
    (first_at rows chosen m).start
    ∷ (first_at rows chosen m).size
    ∷ pair_at rows chosen m
    ∷ (second_at rows chosen m).start
    ∷ (second_at rows chosen m).size
    ∷ form_at rows chosen m
    ∷ (bases_at rows chosen m).start
    ∷ (bases_at rows chosen m).size
    ∷ []

-- number k of rows of eight, one behind the other
unfoldable pub entry_number_at : List Row → List ℕ → ℕ → ℕ
entry_number_at rows chosen k = get_or (entry_row rows chosen (k / 8)) (k % 8) 0

-- ---- numbers

-- double k of rows of two, dG and dS of each entry
abbrev pub energy_at : List Row → List ℕ → ℕ → Float
energy_at rows chosen k = number_among rows chosen (k / 2) (k % 2)

-- strand 0 has 0.0; then come the strands of the rows, the quencher and the reporter
unfoldable pub potential_at : List Row → List ℕ → ℕ → Float
potential_at rows chosen m =
    cond (eqb m 0) zero
    (cond (ltb (m - 1) (length chosen)) (potential_in (row_among rows chosen (m - 1)))
    (cond (eqb (m - 1) (length chosen)) (potential_in (first_of Quencher rows))
    (potential_in (first_of Reporter rows))))
