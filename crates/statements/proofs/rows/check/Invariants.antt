-- `statements::rows::check` meets its contract: the lines that are left give the whole answer. Assumes nothing.
use mathlib.Core.Path.{◌≡◌}
use Prim.Native.Nat.{◌≤◌}
use Rattle.statements.specs.inner.Lines.{lines_left}
use Rattle.statements.specs.Words.{lines_of}
use Rattle.statements.specs.Rows.{answer_from}
use Rattle.statements.proofs.rows.check.Given as goal

abbrev pub invariant-loop-line : goal.invariant-loop-line
invariant-loop-line l =
    let left = l.line-iterator in
    (l.count ≤ l.room) × (left.text.now ≡ l.text)
    × (answer_from l.text l.room 1 0 (lines_of l.text) ≡ answer_from l.text l.room left.number l.count (lines_left left))
