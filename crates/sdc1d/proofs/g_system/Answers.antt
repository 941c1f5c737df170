-- The state energy is RT times the sum over the places. Assumes nothing.
use mathlib.Core.Path.{◌≡◌, refl, sym, ap, ◌∙◌}
use Rattle.doubles.specs.Decimal.{zero}
use Rattle.model.specs.Energy.{state_energy}
use Rattle.reply.specs.Figures.{given}
use Rattle.reply.proofs.Figures.{answered-by}
use Rattle.design.specs.Design.{model_of}
use Rattle.sdc1d.proofs.g_system.Goals as goal

pub returns : goal.returns
unfolding state_energy model_of
returns c =
    let d = c.args.design.now in
    let told = c.in_ok-admitted.ensures in
    let terms = rw told.same at (c.terms_of-terms.ensures) told.state in
    let sum = c.state_sum-sumg.ensures (model_of d) terms in
    let is : c.admitted.inside.design.now ≡ d = c.admitted.view_is ∙ told.same in
    let energy : c.mul.result.0 ≡ state_energy (model_of d) c.args.attachments.now = rw (c.mul.ensures, c.rt.ensures, is, sum) refl in
    ap given energy ∙ answered-by zero (state_energy (model_of d) c.args.attachments.now) (sym told.value)
