use Rattle.jobs.proofs.Stretches.{Filled}
use Rattle.jobs.proofs.fill.fill_stretches.Given as goal

abbrev pub invariant-loop-k : goal.invariant-loop-k
invariant-loop-k l = Filled l.configuration l.jobs l.initial.stretches l.k l.stretches
