-- The invariant: the row is that of the position passed last. Assumes nothing.
use Rattle.partition_sums.specs.inner.Rows.{Row}
use Rattle.partition_sums.proofs.sums.free_sum.Given as goal

abbrev pub invariant-loop-position : goal.invariant-loop-position
invariant-loop-position l = Row l.formed.lent l.position l.row
