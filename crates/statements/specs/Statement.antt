-- The statement of a line: a row's slots, filled word by word from the left, or the first word at fault.
use Rattle.std.specs.Prelude.{false, cond, List, [], ◌∷◌, ℕ, ◌+◌, set, replicate, Float, Option, None, Some, Result, Ok, Err}
use Rattle.doubles.specs.Decimal.{zero}
use Rattle.decimals.specs.Number.{number_of}
use Rattle.decimals.specs.declared.NumberFault.{NumberFault}
use Rattle.decimals.specs.declared.NumberFault.TheVariants as number
use Rattle.statements.specs.Words.{words_in, word_at, spelled, spells}
use Rattle.statements.specs.Grammar.{kind_of, item_of, sequence_kind, is_position, dg_bytes, ds_bytes, seq_bytes, dash_bytes}
use Rattle.statements.specs.Amounts.{amount_of}
use Rattle.statements.specs.declared.amounts.Amount.{Amount}
use Rattle.statements.specs.declared.words.Word.{Word}
use Rattle.statements.specs.declared.grammar.Kind.{Kind}
use Rattle.statements.specs.declared.grammar.Item.{Item}
use Rattle.statements.specs.declared.grammar.Item.TheVariants.{Number, Name, Glue, Bases, DgOrSeq, Ds}
use Rattle.statements.specs.declared.grammar.Item.TheVariants as item
use Rattle.statements.specs.declared.statement.Reason.{Reason}
use Rattle.statements.specs.declared.statement.Reason.TheVariants.{NoSuchStatement, TooFewWords, TooManyWords, NotANumber, NotAnAmount, TooManyDigits, OutOfReach, NeitherDgNorSeq, NotDs, NotAName}
use Rattle.statements.specs.declared.statement.Fault.{Fault}
use Rattle.statements.specs.declared.statement.Row.{Row}
use Rattle.statements.specs.declared.statement.Statement.{Statement}
use Rattle.statements.specs.declared.statement.Statement.TheVariants.{Nothing, OneRow, Positions}

-- ---- rows

-- A row has four words and three numbers. A word that is absent, or that the kind does not have, has the size 0; a number that the kind does not
-- have is 0.0, and so is an amount, which is then no concentration.
abbrev pub blank : Kind → ℕ → Row
blank kind line = record { kind = kind; concentration = false; line = line; words = replicate 4 (word_at 0 0); numbers = replicate 3 zero }

-- no row, for a word at fault
abbrev pub faulty : {A : Type 0} → Word → Reason → Result A Fault
faulty word reason = Err (record { word = word; reason = reason })

-- the row with a word in a slot
unfoldable pub put : ℕ → Word → Row → Row
put slot word row = record { kind = row.kind; concentration = row.concentration; line = row.line; words = set row.words slot word; numbers = row.numbers }

-- the row with a number in a slot
unfoldable pub put_number : ℕ → Float → Row → Row
put_number slot x row = record { kind = row.kind; concentration = row.concentration; line = row.line; words = row.words; numbers = set row.numbers slot x }

-- the row with an amount, which is its first number
unfoldable pub put_amount : Amount → Row → Row
put_amount amount row =
    record { kind = row.kind; concentration = amount.concentration; line = row.line; words = row.words; numbers = set row.numbers 0 amount.number }

-- the row of `energy` or `pair` with a sequence for its numbers
abbrev pub by_sequence : Row → Row
by_sequence row = record { kind = sequence_kind row.kind; concentration = row.concentration; line = row.line; words = row.words; numbers = row.numbers }

-- ---- one word

-- why a word is no number
abbrev pub reason_of : NumberFault → Reason
reason_of number.NotANumber = NotANumber
reason_of number.TooManyDigits = TooManyDigits
reason_of number.OutOfReach = OutOfReach

-- a number goes to its slot; a word that is none is at fault, with the reason
unfoldable pub number_put : Result Float NumberFault → ℕ → Word → Row → Result Row Fault
number_put (Ok x) slot word row = Ok (put_number slot x row)
number_put (Err why) slot word row = faulty word (reason_of why)

-- why a word is no amount
abbrev pub reason_of_amount : NumberFault → Reason
reason_of_amount number.NotANumber = NotAnAmount
reason_of_amount other = reason_of other

-- an amount is kept; a word that is none is at fault, with the reason
unfoldable pub amount_put : Result Amount NumberFault → Word → Row → Result Row Fault
amount_put (Ok amount) word row = Ok (put_amount amount row)
amount_put (Err why) word row = faulty word (reason_of_amount why)

-- a glue: of `-` no bytes are kept
abbrev pub glue_of : List ℕ → Word → Word
glue_of bytes word = word_at word.start (cond (spells bytes dash_bytes) 0 word.size)

-- the row after a word, of these bytes, that has to be an item
unfoldable pub accepted : List ℕ → Option Item → Word → Row → Result Row Fault
accepted bytes (Some (Number slot)) word row = number_put (number_of bytes) slot word row
accepted bytes (Some item.Amount) word row = amount_put (amount_of bytes) word row
accepted bytes (Some (Name slot)) word row = cond (spells bytes dash_bytes) (faulty word NotAName) (Ok (put slot word row))
accepted bytes (Some (Glue slot)) word row = Ok (put slot (glue_of bytes word) row)
accepted bytes (Some (Bases slot)) word row = Ok (put slot word row)
accepted bytes (Some DgOrSeq) word row =
    cond (spells bytes dg_bytes) (Ok row) (cond (spells bytes seq_bytes) (Ok (by_sequence row)) (faulty word NeitherDgNorSeq))
accepted bytes (Some Ds) word row = cond (spells bytes ds_bytes) (Ok row) (faulty word NotDs)
accepted bytes None word row = faulty word TooManyWords

-- ---- all words after the keyword

-- the row where no word is missing. Of too few words the keyword tells.
unfoldable pub closed : Option Item → Word → Row → Result Row Fault
closed None key row = Ok row
closed (Some item) key row = faulty key TooFewWords

-- what comes after, unless a fault was met
abbrev pub and_then : {A B : Type 0} → Result A Fault → (A → Result B Fault) → Result B Fault
and_then (Ok x) after = after x
and_then (Err fault) after = Err fault

-- the words from a place after the keyword on
unfoldable pub fit : List ℕ → Word → ℕ → Row → List Word → Result Row Fault
fit line key place row [] = closed (item_of row.kind place) key row
fit line key place row (word ∷ rest) =
    and_then (accepted (spelled line word) (item_of row.kind place) word row) (λ next. fit line key (place + 1) next rest)

-- ---- the whole line

-- by the kind that the keyword tells
unfoldable pub statement_from : Option Kind → List ℕ → Word → ℕ → List Word → Result Statement Fault
statement_from None line key number rest = faulty key NoSuchStatement
statement_from (Some kind) line key number rest =
    cond (is_position kind) (Ok (Positions kind (key.start + key.size)))
    (and_then (fit line key 0 (blank kind number) rest) (λ row. Ok (OneRow row)))

-- from its words
unfoldable pub statement_of_words : List ℕ → ℕ → List Word → Result Statement Fault
statement_of_words line number [] = Ok Nothing
statement_of_words line number (key ∷ rest) = statement_from (kind_of (spelled line key)) line key number rest

-- of the line, in the text up to its end, that begins at a place, and has this number
unfoldable pub statement_of : List ℕ → ℕ → ℕ → Result Statement Fault
statement_of line at number = statement_of_words line number (words_in line at)
