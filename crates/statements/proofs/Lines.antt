-- Lines and rows, one by one. Assumes nothing.
use mathlib.Core.Path.{◌≡◌, refl, ap, subst, ◌∙◌}
use mathlib.Core.List.{List, ◌∷◌, ◌++◌, map}
use Prim.Native.Nat.{ℕ, ◌+◌, ◌≤◌, ◌<◌}
use native.Mathlib.Numerals.{add-one}
use lib.ListN.{length, length-append, set, take}
use lib.Seq.{sets}
use borrow.Author.Tests.{lt-ltb, le-ltb}
use Rattle.std.specs.Prelude.{Option, Result, Ok, Err, MatchResult, IsErrAnd}
use Rattle.lists.proofs.Front.{sets-append}
use Rattle.statements.specs.Words.{words_in, spelled}
use Rattle.statements.specs.inner.Lines.{lines_left, IsFirst}
use Rattle.statements.specs.Grammar.{kind_of}
use Rattle.statements.specs.Statement.{statement_from, statement_of_words, statement_of}
use Rattle.statements.specs.Rows.{rows_of_line, rows_from, count_of, answer_by, answer_from}
use Rattle.statements.specs.Faults.{fault_before, faults_from}
use Rattle.statements.specs.declared.words.Word.{Word}
use Rattle.statements.specs.declared.words.Lines.{Lines}
use Rattle.statements.specs.declared.words.NumberedLine.{NumberedLine}
use Rattle.statements.specs.declared.grammar.Kind.{Kind}
use Rattle.statements.specs.declared.statement.Fault.{Fault}
use Rattle.statements.specs.declared.statement.Row.{Row}
use Rattle.statements.specs.declared.statement.Statement.{Statement}
use Rattle.statements.specs.declared.ReadFault.TheVariants.{Unreadable, TooManyRows}

-- ---- the statement

-- a line with a first word
pub by_kind : (line : List ℕ) (at number : ℕ) (key : Word) (rest : List Word) (bytes : List ℕ) (kind : Option Kind) → words_in line at ≡ key ∷ rest
    → bytes ≡ spelled line key → kind ≡ kind_of bytes → statement_from kind line key number rest ≡ statement_of line at number
unfolding statement_of statement_of_words
by_kind line at number key rest bytes kind w b k = rw (w, k, b)

-- ---- the rows of a line's words

-- one word's row, and those of the words after it
pub position-step : (f : Word → Row) (words rest : List Word) (word : Word) → words ≡ word ∷ rest → (rows : List Row) (i : ℕ) (row : Row)
    → row ≡ f word → sets (set rows i row) (i + 1) (map f rest) ≡ sets rows i (map f words)
position-step f words rest word e rows i row r = rw (e, r, add-one)

-- ---- a fault that a `map_err` puts into its line

-- where it gives rows, it was handed them
pub handed-ok : {A E D : Type 0} (P : E → D → Type 0) (x : A) (r : Result A E) (m : Result A D) → m ≡ Ok x
    → MatchResult r (λ (y : A). m ≡ Ok y) (λ (e : E). IsErrAnd m (P e)) → r ≡ Ok x
handed-ok P x (Ok y) m q h = cc
handed-ok P x (Err e) (Err d) q h = cc
handed-ok P x (Err e) (Ok y) q h = absurd h

-- where it gives a fault, it made that of the one that it was handed
pub handed-err : {A E D : Type 0} (P : E → D → Type 0) (d : D) (r : Result A E) (m : Result A D) → m ≡ Err d
    → MatchResult r (λ (y : A). m ≡ Ok y) (λ (e : E). IsErrAnd m (P e)) → (e : E) × (r ≡ Err e) × P e d
handed-err P d (Ok y) m q h = cc
handed-err {A = A} {D = D} P d (Err e) m q h = (e, refl, subst (λ (r : Result A D). IsErrAnd r (P e)) q h)

-- ---- a line of the text, and those after it

module _ (text : List ℕ) (before after : Lines) (line : NumberedLine) (t : before.text.now ≡ text) (f : IsFirst before after line) where
  shown : line.text.now ≡ take f.end text
  shown = f.text ∙ ap (take f.end) t

  module _ (room count : ℕ) where
    counted : (c : Result ℕ Fault) → count_of line.text.now line.start line.number ≡ c → count_of (take f.end text) line.start before.number ≡ c
    counted c h = rw (← shown, ← f.number) h

    -- the line is at fault
    pub answer-fault : (fault : Fault) → count_of line.text.now line.start line.number ≡ Err fault
        → answer_from text room before.number count (lines_left before) ≡ Err (Unreadable line.number fault)
    unfolding answer_from answer_by
    answer-fault fault c = rw (f.first, counted (Err fault) c, f.number) refl

    -- there is no room for its rows
    pub answer-full : (more : ℕ) → count_of line.text.now line.start line.number ≡ Ok more → room < count + more
        → answer_from text room before.number count (lines_left before) ≡ Err (TooManyRows line.number)
    unfolding answer_from answer_by
    answer-full more c h = rw (f.first, counted (Ok more) c, f.number) (simp (lt-ltb room (count + more) h))

    -- its rows count
    pub answer-more : (more : ℕ) → count_of line.text.now line.start line.number ≡ Ok more → count + more ≤ room
        → answer_from text room before.number count (lines_left before) ≡ answer_from text room after.number (count + more) (lines_left after)
    unfolding answer_from answer_by
    answer-more more c h = rw (f.first, counted (Ok more) c, f.next) (simp (le-ltb room (count + more) h))

  -- its fault, where it has one, and those of the lines after it
  faults-first : faults_from text before.number (lines_left before)
      ≡ fault_before line.number (statement_of line.text.now line.start line.number) (faults_from text after.number (lines_left after))
  unfolding faults_from
  faults-first = rw (f.first, f.next, f.number, shown) refl

  pub fault-here : (fault : Fault) → statement_of line.text.now line.start line.number ≡ Err fault
      → faults_from text before.number (lines_left before) ≡ record { line = line.number; fault = fault } ∷ faults_from text after.number (lines_left after)
  fault-here fault e = faults-first ∙ rw e refl

  pub fault-later : (s : Statement) → statement_of line.text.now line.start line.number ≡ Ok s
      → faults_from text before.number (lines_left before) ≡ faults_from text after.number (lines_left after)
  fault-later s e = faults-first ∙ rw e refl

  -- its rows, and those of the lines after it
  rows-first : rows_from text before.number (lines_left before)
      ≡ rows_of_line line.text.now line.number (statement_of line.text.now line.start line.number) ++ rows_from text after.number (lines_left after)
  unfolding rows_from
  rows-first = rw (f.first, f.next, f.number, shown) refl

  pub line_step : (rows done : List Row) (i next : ℕ)
      → done ≡ sets rows i (rows_of_line line.text.now line.number (statement_of line.text.now line.start line.number))
      → next ≡ i + length (rows_of_line line.text.now line.number (statement_of line.text.now line.start line.number))
      → sets done next (rows_from text after.number (lines_left after)) ≡ sets rows i (rows_from text before.number (lines_left before))
  line_step rows done i next d n = rw (rows-first, sets-append rows i (rows_of_line line.text.now line.number (statement_of line.text.now line.start line.number)) (rows_from text after.number (lines_left after)), d, n) refl

  -- and how many they are
  pub line-count : length (rows_from text before.number (lines_left before))
      ≡ length (rows_of_line line.text.now line.number (statement_of line.text.now line.start line.number)) + length (rows_from text after.number (lines_left after))
  line-count = rw rows-first (length-append (rows_of_line line.text.now line.number (statement_of line.text.now line.start line.number)) (rows_from text after.number (lines_left after)))
