-- Digits times a power of two meet their contract. Assumes nothing.
use Rattle.probabilities.proofs.Doubled.{raised-is}
use Rattle.probabilities.proofs.double.raised.Goals as goal

pub returns : goal.returns
returns c =
    let a = c.args in
    let r = c.requires in
    rw c.from.ensures (raised-is a.digits a.exponent r.digits_nonzero c.ranges.digits.fits r.some r.exponent_bound c.power_of_two.result c.power_of_two.ensures)
