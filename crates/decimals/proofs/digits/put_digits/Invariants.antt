-- `decimals::digits::put_digits` meets its contract. The loop's invariant: the digits still to come, in front of those that stand, are the whole.
-- Assumes nothing.
use Rattle.std.proofs.Common.{◌≡◌, ◌++◌, length, drop}
use Rattle.decimals.specs.Digits.{digits_in}
use Rattle.decimals.proofs.digits.put_digits.Given as goal

abbrev pub invariant-loop-i : goal.invariant-loop-i
invariant-loop-i l = (length l.out ≡ length l.fn.out) × (digits_in l.base l.i l.left ++ drop l.i l.out ≡ digits_in l.base (length l.fn.out) l.n)
