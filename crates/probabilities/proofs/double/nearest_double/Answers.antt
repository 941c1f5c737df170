-- The nearest double of a weight meets its contract. Assumes nothing.
use mathlib.Core.Path.{◌≡◌, ap, ◌∙◌}
use mathlib.Core.Bool.{true, false}
use lib.IntN.{pos, nat_abs}
use lib.Signed.{lt_z}
use Rattle.probabilities.proofs.Doubled.{held, nearest-low, nearest-past, nearest-high}
use Rattle.probabilities.proofs.double.nearest_double.Goals as goal

pub returns-then-power-lt0 : goal.returns-then-power-lt0
returns-then-power-lt0 c =
    let a = c.args in
    let own = held a.power c.ranges.power in
    let below : lt_z a.power (pos 0) ≡ true = rw own at c.if-power-lt0.true in
    let size : c.from-size.result ≡ nat_abs a.power = c.from-size.ensures ∙ c.unsigned_abs.ensures.value ∙ ap nat_abs own in
    (rw size at c.lowered.ensures) ∙ nearest-low a.digits a.power below c.requires.power_bound

pub returns-then-size-gt1023 : goal.returns-then-size-gt1023
returns-then-size-gt1023 c =
    let a = c.args in
    let own = held a.power c.ranges.power in
    let above : lt_z a.power (pos 0) ≡ false = rw own at c.if-power-lt0.false in
    let size : c.from-size.result ≡ nat_abs a.power = c.from-size.ensures ∙ c.unsigned_abs.ensures.value ∙ ap nat_abs own in
    c.double.ensures ∙ nearest-past a.digits a.power c.requires.digits_nonzero above (rw size at c.if-size-gt1023.true)

pub returns : goal.returns
returns c =
    let a = c.args in
    let own = held a.power c.ranges.power in
    let above : lt_z a.power (pos 0) ≡ false = rw own at c.if-power-lt0.false in
    let size : c.from-size.result ≡ nat_abs a.power = c.from-size.ensures ∙ c.unsigned_abs.ensures.value ∙ ap nat_abs own in
    (rw size at c.raised.ensures) ∙ nearest-high a.digits a.power above
