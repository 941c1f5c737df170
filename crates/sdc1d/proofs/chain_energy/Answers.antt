-- The chain energy is the sum over the places, and that times RT. Assumes nothing.
use mathlib.Core.Path.{◌≡◌, refl, sym, ap₂, ◌∙◌}
use lib.Ieee.{Float}
use Rattle.model.specs.Energy.{chain_energy, chain_product}
use Rattle.reply.specs.Figures.{given}
use Rattle.reply.proofs.Figures.{answered-by}
use Rattle.design.specs.Design.{model_of}
use Rattle.design.specs.Answers.{no_chain}
use Rattle.sdc1d.proofs.chain_energy.Goals as goal

pub returns : goal.returns
unfolding chain_product model_of
returns c =
    let m = model_of c.args.design.now in
    let s = c.args.configuration.now in
    let told = c.in_ok-admitted.ensures in
    let terms = rw told.same at (c.terms_of-terms.ensures) told.state in
    let sum = c.chain_sum-sum.ensures m terms in
    let is : c.admitted.inside.design.now ≡ c.args.design.now = c.admitted.view_is ∙ told.same in
    let energy : c.mul.result.0 ≡ chain_product m s = rw (c.mul.ensures, c.rt.ensures, is, sum) refl in
    ap₂ (λ (bare product : Float). given (record { bare = bare; times_rt = product })) sum energy ∙ answered-by no_chain ((record { bare = chain_energy m s; times_rt = chain_product m s })) (sym told.value)
