-- `sheet::rows::rows_of` meets its contract: the rows passed over that are of the group stand in front. Assumes nothing.
use Prim.Native.Nat.{◌-◌, ◌≤◌}
use lib.ListN.{length, drop, take}
use Rattle.lists.proofs.Front.{Front}
use Rattle.sheet.specs.Rows.{places_from, rows_of}
use Rattle.sheet.proofs.rows.rows_of.Given as goal

abbrev pub invariant-loop-i : goal.invariant-loop-i
invariant-loop-i l =
    (l.n ≤ length l.initial.chosen)
    × Front l.initial.chosen (take (length l.initial.chosen) (rows_of l.group l.rows)) (take (length l.initial.chosen - l.n) (places_from l.group l.i (drop l.i l.rows))) l.n l.chosen
