-- The invariant: what the digits so far, with the rest, stand for. Assumes nothing.
use Rattle.logarithm.proofs.Digits.{Digits}
use Rattle.logarithm.proofs.quotient.Given as goal

abbrev pub invariant-loop : goal.invariant-loop
invariant-loop l = Digits l.d l.a l.q l.rest l.counter
