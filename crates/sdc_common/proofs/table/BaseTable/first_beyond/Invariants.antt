-- `sdc_common::first_beyond` meets its contract: the bases of the names passed over are learnt, and were never too many. Assumes nothing.
use mathlib.Core.Path.{◌≡◌}
use mathlib.Core.Bool.{false}
use mathlib.Core.List.{[]}
use Prim.Native.Nat.{ℕ, ◌≤◌, ◌<◌}
use lib.ListN.{length}
use Rattle.lists.specs.Fold.{foldl}
use Rattle.lists.specs.Build.{tabulate}
use Rattle.sdc_common.specs.Lent.{glues_of, names_of}
use Rattle.sdc_common.specs.Numbers.{learn, crowds}
use Rattle.sdc_common.proofs.Fit.{glue_at}
use Rattle.sdc_common.proofs.table.BaseTable.first_beyond.Given as goal

abbrev pub invariant-loop-i : goal.invariant-loop-i
invariant-loop-i l =
    (length l.table ≤ l.i) × (l.table ≡ foldl learn [] (tabulate l.i (glue_at l.text l.names)))
    × ((k : ℕ) → k < l.i → crowds l.most (glues_of l.text (names_of l.names)) k ≡ false)
