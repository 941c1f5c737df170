-- The invariant: of the options passed the sums are written, each at its strand. Assumes nothing.
use Rattle.partition_sums.specs.inner.Rows.{through_term}
use Rattle.partition_sums.proofs.Positions.{here}
use Rattle.partition_sums.proofs.Rowed.{Written}
use Rattle.partition_sums.proofs.ends.row_through.Given as goal

abbrev pub invariant-loop-x : goal.invariant-loop-x
invariant-loop-x l = Written (through_term l.formed.lent l.position) (here l.formed.lent l.position) l.x-index l.row
