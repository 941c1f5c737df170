-- The call's answer, and what its lent slice holds then. Assumes nothing.
use mathlib.Core.Path.{◌≡◌, refl, ◌∙◌}
use mathlib.Core.Bool.{Bool, true, false, cond}
use mathlib.Core.List.{List, [], ◌∷◌, ◌++◌}
use Prim.Native.Nat.{ℕ, ◌+◌, ◌≤◌, ◌<◌}
use native.Mathlib.Omega.{arith}
use lib.Dec.{ltb}
use lib.ListN.{length, length-append, length-map}
use lib.Seq.{sets}
use borrow.Author.Tests.{lt-ltb, le-ltb, ltb-false}
use Rattle.std.specs.Prelude.{Result, Ok, Err}
use Rattle.statements.specs.Words.{Line, lines_of, up_to_end, words_in}
use Rattle.statements.specs.Statement.{statement_of}
use Rattle.statements.specs.Rows.{position_row, rows_of_line, rows_in, rows_from, rows_of, statement_count, count_of, answer_by, answer_from, read_answer, rows_after}
use Rattle.statements.specs.declared.statement.Fault.{Fault}
use Rattle.statements.specs.declared.statement.Row.{Row}
use Rattle.statements.specs.declared.statement.Statement.{Statement}
use Rattle.statements.specs.declared.statement.Statement.TheVariants.{Nothing, OneRow, Positions}
use Rattle.statements.specs.declared.ReadFault.{ReadFault}
use Rattle.statements.specs.declared.ReadFault.TheVariants.{TooManyRows, TooLong}

-- ---- the rows that are counted are those that are laid

counted : (s : Result Statement Fault) (line : List ℕ) (number more : ℕ) → statement_count line s ≡ Ok more → length (rows_of_line line number s) ≡ more
unfolding statement_count rows_of_line
counted (Ok Nothing) line number more e = cc
counted (Ok (OneRow row)) line number more e = cc
counted (Ok (Positions kind at)) line number more e =
    let n : length (words_in line at) ≡ more = cc in
    length-map (words_in line at) (position_row kind line number) ∙ n
counted (Err fault) line number more e = cc

counted-line : (line : List ℕ) (at number more : ℕ) → count_of line at number ≡ Ok more → length (rows_of_line line number (statement_of line at number)) ≡ more
unfolding count_of
counted-line line at number more e = counted (statement_of line at number) line number more e

module _ (text : List ℕ) (room : ℕ) where
  -- rows that are answered are as many as the lines have, and there is room for them
  pub rows-counted : (lines : List Line) (number count n : ℕ) → count ≤ room → answer_from text room number count lines ≡ Ok n
      → (n ≡ count + length (rows_from text number lines)) × (n ≤ room)
  unfolding answer_from answer_by rows_from
  rows-counted [] number count n h e =
      let z : count ≡ n = cc in
      (omega arith, omega arith)
  rows-counted (line ∷ rest) number count n h e =
      at-line (λ c l f. rows-counted rest (number + 1) c n l f) (count_of (up_to_end text line) line.start number) refl e
    where
      After : Type 0
      After = (c : ℕ) → c ≤ room → answer_from text room (number + 1) c rest ≡ Ok n → (n ≡ c + length (rows_from text (number + 1) rest)) × (n ≤ room)

      at_room : After → (more : ℕ) (b : Bool) → ltb room (count + more) ≡ b → length (rows_in text number line) ≡ more
          → cond b (Err (TooManyRows number)) (answer_from text room (number + 1) (count + more) rest) ≡ Ok n
          → (n ≡ count + length (rows_in text number line ++ rows_from text (number + 1) rest)) × (n ≤ room)
      at_room after more true t l e = cc
      at_room after more false t l e =
          let fit = after (count + more) (ltb-false room (count + more) t) e in
          (omega (arith, length-append (rows_in text number line) (rows_from text (number + 1) rest)), fit.1)

      at-line : After → (k : Result ℕ Fault) → count_of (up_to_end text line) line.start number ≡ k
          → answer_by k room number count (λ counted. answer_from text room (number + 1) counted rest) ≡ Ok n
          → (n ≡ count + length (rows_in text number line ++ rows_from text (number + 1) rest)) × (n ≤ room)
      at-line after (Err fault) k e = cc
      at-line after (Ok more) k e =
          at_room after more (ltb room (count + more)) refl (counted-line (up_to_end text line) line.start number more k) e

-- ---- the call

module _ (text : List ℕ) (before : List Row) where
  pub read-long : 1048576 < length text → read_answer text (length before) ≡ Err TooLong
  unfolding read_answer
  read-long h = simp (lt-ltb 1048576 (length text) h)

  pub read-lines : length text ≤ 1048576 → read_answer text (length before) ≡ answer_from text (length before) 1 0 (lines_of text)
  unfolding read_answer
  read-lines h = simp (le-ltb 1048576 (length text) h)

  -- where rows are answered, the lines gave the answer
  pub read-rows : (n : ℕ) → read_answer text (length before) ≡ Ok n → answer_from text (length before) 1 0 (lines_of text) ≡ Ok n
  unfolding read_answer
  read-rows n e = short (ltb 1048576 (length text)) e
    where
      short : (l : Bool) → cond l (Err TooLong) (answer_from text (length before) 1 0 (lines_of text)) ≡ Ok n
          → answer_from text (length before) 1 0 (lines_of text) ≡ Ok n
      short true e = cc
      short false e = e

  -- rows are laid
  pub rows-laid : (n : ℕ) → read_answer text (length before) ≡ Ok n → rows_after text before ≡ sets before 0 (rows_of text)
  unfolding rows_after
  rows-laid n e = rw e

  -- and nothing else is
  pub rows-kept : (fault : ReadFault) → read_answer text (length before) ≡ Err fault → rows_after text before ≡ before
  unfolding rows_after
  rows-kept fault e = rw e
