-- The double of a weight meets its contract. Assumes nothing.
use mathlib.Core.Path.{◌≡◌, ap, ◌∙◌}
use mathlib.Core.Bool.{true, false}
use lib.IntN.{ℤ, negsuc}
use lib.Signed.{lt_z}
use borrow.Author.Tests.{eq-eqb, ne_eqb}
use lib.Ieee.{lt}
use Rattle.fractions.specs.Weight.{weight}
use Rattle.probabilities.specs.Double.{nearest_double, least_double, double_of}
use Rattle.probabilities.proofs.Doubled.{held, zero-is, tiny-lt}
use Rattle.probabilities.proofs.double.double_of.Goals as goal

pub returns-then-digits-eq0 : goal.returns-then-digits-eq0
unfolding double_of
returns-then-digits-eq0 c = rw (eq-eqb c.args.digits 0 c.if-digits-eq0.true) zero-is

pub returns-then-power-ltminus1148 : goal.returns-then-power-ltminus1148
unfolding double_of
returns-then-power-ltminus1148 c =
    let a = c.args in
    let own = held a.power c.ranges.power in
    let below : lt_z a.power (negsuc 1147) ≡ true = rw own at c.if-power-ltminus1148.true in
    rw (ne_eqb a.digits 0 c.if-digits-eq0.false, tiny-lt a.digits a.power c.ranges.digits.fits below) c.double-least.ensures

pub returns-then-nearest-least : goal.returns-then-nearest-least
unfolding double_of
returns-then-nearest-least c =
    let a = c.args in
    let own = held a.power c.ranges.power in
    let nearest : c.nearest_double-nearest.result ≡ nearest_double (weight a.digits a.power) = c.nearest_double-nearest.ensures ∙ ap (λ (z : ℤ). nearest_double (weight a.digits z)) own in
    let test : lt (nearest_double (weight a.digits a.power)) least_double ≡ true = rw (nearest, c.double-least.ensures) at c.if-nearest-least.true in
    rw (ne_eqb a.digits 0 c.if-digits-eq0.false, test) c.double-least.ensures

pub returns-else-nearest-least : goal.returns-else-nearest-least
unfolding double_of
returns-else-nearest-least c =
    let a = c.args in
    let own = held a.power c.ranges.power in
    let nearest : c.nearest_double-nearest.result ≡ nearest_double (weight a.digits a.power) = c.nearest_double-nearest.ensures ∙ ap (λ (z : ℤ). nearest_double (weight a.digits z)) own in
    let test : lt (nearest_double (weight a.digits a.power)) least_double ≡ false = rw (nearest, c.double-least.ensures) at c.if-nearest-least.false in
    rw (ne_eqb a.digits 0 c.if-digits-eq0.false, test) nearest
