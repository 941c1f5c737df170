-- The rows of the text stand first in the lent slice, one after the other. Assumes nothing.
use mathlib.Core.Path.{◌≡◌, ◌∙◌}
use mathlib.Core.List.{List}
use Prim.Native.Nat.{ℕ}
use native.Mathlib.Omega.{arith}
use lib.ListN.{length}
use Rattle.std.specs.Prelude.{Ok}
use Rattle.lists.proofs.Front.{sets_over}
use Rattle.statements.specs.Words.{lines_of}
use Rattle.statements.specs.Rows.{rows_of, read_answer}
use Rattle.statements.specs.Theorems.{Answered, Reading}
use Rattle.statements.specs.declared.statement.Row.{Row}
use Rattle.statements.proofs.Reading.{rows-counted, rows-laid, read-rows}

answered : (text : List ℕ) (before : List Row) (n : ℕ) → read_answer text (length before) ≡ Ok n → Answered text before n
answered text before n e =
    let fit = rows-counted text (length before) (lines_of text) 1 0 n (omega arith) (read-rows text before n e) in
    record {
      count = omega arith;
      filled = rows-laid text before n e ∙ sets_over (rows_of text) before (omega arith);
    }

pub reading : Reading
reading = record { answered = answered }
