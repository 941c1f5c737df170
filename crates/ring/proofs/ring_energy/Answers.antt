-- The ring energy is RT times the sum over the places and the closing bond. Assumes nothing.
use mathlib.Core.Path.{◌≡◌, refl, sym, ap, ◌∙◌}
use Prim.Native.Nat.{◌≤◌}
use lib.Dec.{ltb}
use borrow.Author.Tests.{ltb-false}
use Rattle.reply.specs.declared.Refusal.TheVariants.{NotARing}
use Rattle.design.proofs.Replies.{bare-false}
use Rattle.doubles.specs.Decimal.{zero}
use Rattle.reply.specs.Figures.{given}
use Rattle.reply.proofs.Figures.{answered-by}
use Rattle.reply.proofs.First.{reply-append}
use Rattle.model.specs.Ring.{ring_energy}
use Rattle.design.specs.Design.{positions, model_of}
use Rattle.design.specs.Checks.{energy_checks}
use Rattle.ring.specs.Answers.{own_ring_checks}
use Rattle.ring.proofs.Replies.{ring-passes}
use Rattle.ring.proofs.ring_energy.Goals as goal

pub returns : goal.returns
unfolding ring_energy model_of
returns c =
    let d = c.args.design.now in
    let s = c.args.configuration.now in
    let told = c.in_ok-admitted.ensures in
    let chain = sym told.value in
    let is : c.admitted.inside.design.now ≡ d = c.admitted.view_is ∙ told.same in
    let terms = rw told.same at (c.terms_of-terms.ensures) told.state in
    let ring : 3 ≤ positions d = ltb-false (positions d) 3 (bare-false (ltb (positions d) 3) NotARing (rw (c.positions.ensures, is) at c.in_ok-refused_if.ensures)) in
    let admitted = reply-append (energy_checks d s) (own_ring_checks d) chain ∙ ring-passes d ring in
    let sum = c.ring_sum-sum.ensures (model_of d) terms (λ _ _. rw is at c.strand_bond-closing.ensures) in
    let energy : c.mul.result.0 ≡ ring_energy (model_of d) s = rw (c.mul.ensures, c.rt.ensures, is, sum) refl in
    ap given energy ∙ answered-by zero (ring_energy (model_of d) s) admitted
