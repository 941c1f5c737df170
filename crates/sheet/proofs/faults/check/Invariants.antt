-- `sheet::faults::check` meets its contract: the rows that are left give the whole answer. Assumes nothing.
use mathlib.Core.Path.{◌≡◌}
use mathlib.Core.List.{[]}
use lib.ListN.{take, drop}
use Rattle.sheet.specs.Faults.{fault_from}
use Rattle.sheet.proofs.faults.check.Given as goal

abbrev pub invariant-loop-i : goal.invariant-loop-i
invariant-loop-i l = fault_from l.text [] l.rows ≡ fault_from l.text (take l.i l.rows) (drop l.i l.rows)
