-- The rows of a text, the answer, and what the lent slice holds then.
use Rattle.std.specs.Prelude.{Bool, cond, List, [], ◌∷◌, ◌++◌, map, ℕ, ◌+◌, ltb, length, Result, Ok, Err}
use Rattle.std.proofs.lemmas.List.Edits.{sets}
use Rattle.statements.specs.Words.{Line, lines_of, up_to_end, words_in, spelled}
use Rattle.statements.specs.Statement.{blank, put, glue_of, statement_of}
use Rattle.statements.specs.declared.words.Word.{Word}
use Rattle.statements.specs.declared.grammar.Kind.{Kind}
use Rattle.statements.specs.declared.statement.Fault.{Fault}
use Rattle.statements.specs.declared.statement.Row.{Row}
use Rattle.statements.specs.declared.statement.Statement.{Statement}
use Rattle.statements.specs.declared.statement.Statement.TheVariants.{Nothing, OneRow, Positions}
use Rattle.statements.specs.declared.ReadFault.{ReadFault}
use Rattle.statements.specs.declared.ReadFault.TheVariants.{Unreadable, TooManyRows, TooLong}

-- ---- the rows of a text

-- a position: a glue, or `-` for none
unfoldable pub position_row : Kind → List ℕ → ℕ → Word → Row
position_row kind line number word = put 0 (glue_of (spelled line word) word) (blank kind number)

-- the rows of a line that holds a statement
unfoldable pub rows_of_line : List ℕ → ℕ → Result Statement Fault → List Row
rows_of_line line number (Ok Nothing) = []
rows_of_line line number (Ok (OneRow row)) = row ∷ []
rows_of_line line number (Ok (Positions kind at)) = map (position_row kind line number) (words_in line at)
rows_of_line line number (Err fault) = []

-- the rows of a line of the text
abbrev pub rows_in : List ℕ → ℕ → Line → List Row
rows_in text number line = rows_of_line (up_to_end text line) number (statement_of (up_to_end text line) line.start number)

-- the rows of some lines, which are numbered from here on
unfoldable pub rows_from : List ℕ → ℕ → List Line → List Row
rows_from text number [] = []
rows_from text number (line ∷ rest) = rows_in text number line ++ rows_from text (number + 1) rest

-- the rows of a text; lines are numbered from 1
abbrev pub rows_of : List ℕ → List Row
rows_of text = rows_from text 1 (lines_of text)

-- ---- the answer

-- how many rows a line has that holds a statement, or its fault
unfoldable pub statement_count : List ℕ → Result Statement Fault → Result ℕ Fault
statement_count line (Ok Nothing) = Ok 0
statement_count line (Ok (OneRow row)) = Ok 1
statement_count line (Ok (Positions kind at)) = Ok (length (words_in line at))
statement_count line (Err fault) = Err fault

-- the same of the line that begins at a place
unfoldable pub count_of : List ℕ → ℕ → ℕ → Result ℕ Fault
count_of line at number = statement_count line (statement_of line at number)

-- the answer at a line of which this is known, where so many rows come before it: a fault, no room, or what comes after
unfoldable pub answer_by : Result ℕ Fault → ℕ → ℕ → ℕ → (ℕ → Result ℕ ReadFault) → Result ℕ ReadFault
answer_by (Err fault) room number count after = Err (Unreadable number fault)
answer_by (Ok more) room number count after = cond (ltb room (count + more)) (Err (TooManyRows number)) (after (count + more))

-- the first line at fault, or the first whose rows there is no room for, or how many rows there are
unfoldable pub answer_from : List ℕ → ℕ → ℕ → ℕ → List Line → Result ℕ ReadFault
answer_from text room number count [] = Ok count
answer_from text room number count (line ∷ rest) =
    answer_by (count_of (up_to_end text line) line.start number) room number count (λ counted. answer_from text room (number + 1) counted rest)

-- ---- the call

-- a file is at most 1 MiB
abbrev pub too_long : List ℕ → Bool
too_long text = ltb 1048576 (length text)

-- what reading answers, with room for so many rows
unfoldable pub read_answer : List ℕ → ℕ → Result ℕ ReadFault
read_answer text room = cond (too_long text) (Err TooLong) (answer_from text room 1 0 (lines_of text))

-- an answer other than a number of rows leaves the slice as it was
abbrev pub given_rows : Result ℕ ReadFault → List Row → List Row → List Row
given_rows (Ok count) before filled = filled
given_rows (Err fault) before filled = before

-- what the slice holds then: the rows from its first place on
unfoldable pub rows_after : List ℕ → List Row → List Row
rows_after text before = given_rows (read_answer text (length before)) before (sets before 0 (rows_of text))
