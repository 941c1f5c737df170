-- `sdc_common::refill` meets its contract: the bases of the names passed over are learnt. Assumes nothing.
use mathlib.Core.Path.{◌≡◌}
use mathlib.Core.List.{[]}
use Prim.Native.Nat.{◌≤◌}
use lib.ListN.{length}
use Rattle.lists.specs.Fold.{foldl}
use Rattle.lists.specs.Build.{tabulate}
use Rattle.sdc_common.specs.Numbers.{learn}
use Rattle.sdc_common.proofs.Fit.{glue_at}
use Rattle.sdc_common.proofs.table.BaseTable.refill.Given as goal

abbrev pub invariant-loop-row : goal.invariant-loop-row
invariant-loop-row l = (length l.self ≤ l.row-index) × (l.self ≡ foldl learn [] (tabulate l.row-index (glue_at l.text l.names)))
