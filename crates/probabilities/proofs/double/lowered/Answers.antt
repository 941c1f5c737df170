-- Digits over 2^126 times a power of two meet their contract. Assumes nothing.
use mathlib.Core.Path.{refl}
use lib.Ieee.{of_bits}
use Rattle.probabilities.proofs.Doubled.{lowered-is}
use Rattle.probabilities.proofs.double.lowered.Goals as goal

pub returns : goal.returns
unfolding of_bits
returns c =
    let a = c.args in
    let r = c.requires in
    rw c.from.ensures (lowered-is a.digits a.exponent r.digits_nonzero c.ranges.digits.fits r.some r.exponent_bound c.power_of_two.result c.power_of_two.ensures _ (refl, refl))
