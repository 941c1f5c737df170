-- `statements::rows::lay` meets its contract: the lines that are left, laid from here on, give the whole. Assumes nothing.
use mathlib.Core.Path.{◌≡◌}
use Prim.Native.Nat.{◌≤◌, ◌+◌}
use lib.ListN.{length}
use lib.Seq.{sets}
use Rattle.statements.specs.inner.Lines.{lines_left}
use Rattle.statements.specs.Rows.{rows_from, rows_of}
use Rattle.statements.proofs.rows.lay.Given as goal

abbrev pub invariant-loop-line : goal.invariant-loop-line
invariant-loop-line l =
    let left = l.line-iterator in
    let rows = rows_from l.text left.number (lines_left left) in
    (left.text.now ≡ l.text) × (length l.rows ≡ length l.initial.rows) × (l.next + length rows ≤ length l.initial.rows)
    × (sets l.rows l.next rows ≡ sets l.initial.rows 0 (rows_of l.text))
