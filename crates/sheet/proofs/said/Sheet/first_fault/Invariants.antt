-- `sheet::said::Sheet::first_fault` meets its contract: the rows that are left give the whole answer. Assumes nothing.
use mathlib.Core.Path.{◌≡◌}
use lib.ListN.{drop}
use Rattle.sheet.specs.Place.{row_fault, first_fault}
use Rattle.sheet.proofs.said.Sheet.first_fault.Given as goal

abbrev pub invariant-loop-row : goal.invariant-loop-row
invariant-loop-row l =
    let s = l.fn.self in
    first_fault (row_fault s.text.now s.rows.now l.refusal) s.rows.now ≡ first_fault (row_fault s.text.now s.rows.now l.refusal) (drop l.row-index s.rows.now)
