use native.Mathlib.Omega.{arith}
use Rattle.logarithm.proofs.Digits.{digits_more, digits-small, digit_lt}
use Rattle.logarithm.proofs.quotient.Goals as goal

pub overflow_mul-q : goal.overflow_mul-q
overflow_mul-q c = omega (arith, digits-small c.args.d c.args.a c.loop.q c.loop.rest c.loop.counter (omega arith) c.loop.invariant)

pub overflow_add-q : goal.overflow_add-q
overflow_add-q c = omega (arith, digits-small c.args.d c.args.a c.loop.q c.loop.rest c.loop.counter (omega arith) c.loop.invariant, digit_lt c.args.a c.loop.rest c.loop.invariant.rest)

pub loop-preserved : goal.loop-preserved
loop-preserved c = digits_more c.args.d c.args.a c.loop.q c.loop.rest c.loop.counter (omega arith) c.loop.invariant
