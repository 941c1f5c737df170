-- The invariant: the options among those passed that the list allows stand in front.
use Prim.Native.Nat.{◌≤◌}
use lib.ListN.{drop}
use Rattle.lists.specs.Build.{keep}
use Rattle.lists.proofs.Front.{Front}
use Rattle.partition.specs.Constraint.{allows}
use Rattle.partition_sums.proofs.allowed.keep_row.Given as goal

abbrev pub invariant-loop-x : goal.invariant-loop-x
invariant-loop-x l = (l.count ≤ l.x-index) × Front l.initial.row (keep (allows l.list) l.options) (keep (allows l.list) (drop l.x-index l.options)) l.count l.row
