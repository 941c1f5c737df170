-- A weight as the bits of a double meets its contract. Assumes nothing.
use mathlib.Core.Path.{ap, ◌∙◌}
use lib.IntN.{ℤ}
use lib.Ieee.{binary64, to_bits}
use Rattle.fractions.specs.Weight.{weight}
use Rattle.probabilities.specs.Double.{double_of}
use Rattle.probabilities.proofs.Doubled.{held}
use Rattle.exports.proofs.energies.mj_weight.Goals as goal

pub returns : goal.returns
returns c =
    let a = c.args in
    c.bits.ensures ∙ ap (to_bits binary64) (c.double_of.ensures ∙ ap (λ (z : ℤ). double_of (weight a.digits z)) (held a.power c.ranges.power))
