-- The invariant: of the options passed the terms are written, each at its strand. Assumes nothing.
use Prim.Native.Nat.{◌+◌}
use Rattle.partition_sums.specs.inner.Rows.{before_term}
use Rattle.partition_sums.proofs.Positions.{here}
use Rattle.partition_sums.proofs.Rowed.{Written}
use Rattle.partition_sums.proofs.ends.row_after.Given as goal

abbrev pub invariant-loop-x : goal.invariant-loop-x
invariant-loop-x l = Written (before_term l.formed.lent (l.position + 1)) (here l.formed.lent (l.position + 1)) l.x-index l.next_row
