-- What is shown of the lent slice: the rows of the text stand first in it, one after the other. proofs/Theorems.antt shows it.
use Rattle.std.specs.Prelude.{List, ◌≡◌, ℕ, length, Ok}
use Rattle.lists.specs.Front.{over}
use Rattle.statements.specs.Rows.{rows_of, read_answer, rows_after}
use Rattle.statements.specs.declared.statement.Row.{Row}

-- "Ok n": n is the number of the text's rows, and the slice holds them, and past them what it held
pub record Answered (text : List ℕ) (before : List Row) (n : ℕ) : Type 0 where
  pub count : n ≡ length (rows_of text)
  pub filled : rows_after text before ≡ over (rows_of text) before

-- reading that answers with rows has read the text's
pub record Reading : Type 0 where
  pub answered : (text : List ℕ) (before : List Row) (n : ℕ) → read_answer text (length before) ≡ Ok n → Answered text before n
