-- The invariant: of the options passed the terms are written, each at its strand. Assumes nothing.
use Rattle.partition_sums.proofs.Positions.{here, passed_at}
use Rattle.partition_sums.proofs.Rowed.{Written}
use Rattle.partition_sums.proofs.rows.row_before.Given as goal

abbrev pub invariant-loop-x : goal.invariant-loop-x
invariant-loop-x l = Written (passed_at l.formed.lent l.position) (here l.formed.lent l.position) l.x-index l.row
