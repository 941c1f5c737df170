-- `decimals::digits::read_digits` meets its contract. The loop's invariant: the digits from here on, after those that stand for n, stand for the whole
-- number. Assumes nothing.
use Rattle.std.proofs.Common.{◌≡◌, ◌≤◌, drop}
use Rattle.decimals.specs.Digits.{numeral}
use Rattle.decimals.proofs.digits.read_digits.Given as goal

abbrev pub invariant-loop-b : goal.invariant-loop-b
invariant-loop-b l = (l.n ≤ l.limit) × (numeral l.base l.n (drop l.b-index l.digits) ≡ numeral l.base l.start l.digits)
