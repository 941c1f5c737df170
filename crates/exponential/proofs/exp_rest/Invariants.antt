-- The series of the exponential meets its contract. Assumes nothing.
use Prim.Native.Nat.{◌-◌}
use Rattle.exponential.proofs.Steps.{Powered}
use Rattle.exponential.proofs.exp_rest.Given as goal

abbrev pub invariant-loop-j : goal.invariant-loop-j
invariant-loop-j l = Powered l.s (l.j - 1) l.term l.sum
