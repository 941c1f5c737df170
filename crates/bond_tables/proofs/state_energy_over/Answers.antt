-- The state energy is RT times the sum over the places, out of the lent cells. Assumes nothing.
use mathlib.Core.Path.{◌≡◌, refl, sym, ap, ◌∙◌}
use Rattle.std.specs.Prelude.{Ok}
use Rattle.std.proofs.lemmas.Result.{err_from_is_err_and}
use Rattle.doubles.specs.Decimal.{zero}
use Rattle.model.specs.Energy.{state_energy}
use Rattle.reply.specs.First.{first_of}
use Rattle.reply.specs.Figures.{given}
use Rattle.reply.proofs.Figures.{answered-by, refused-by}
use Rattle.design.specs.Design.{model_of}
use Rattle.design.specs.Checks.{own_energy_checks, energy_checks}
use Rattle.bond_tables.specs.Tables.{model_over}
use Rattle.bond_tables.specs.Answers.{energy_over_checks}
use Rattle.bond_tables.proofs.Over.{told-by}
use Rattle.bond_tables.proofs.state_energy_over.Goals as goal

pub returns-in_err-bonds_reply : goal.returns-in_err-bonds_reply
returns-in_err-bonds_reply c =
    let d = c.args.design.now in
    let t = c.args.tables.now.strand_bonds.now in
    let u = c.args.tables.now.scaffold_bonds.now in
    let s = c.args.configuration.now in
    let p = err_from_is_err_and c.from_residual.result c.from_residual.ensures.1 in
    let own = rw c.positions.ensures at (c.bonds_reply.ensures.value (own_energy_checks d s)) in
    rw (p.1, p.2) (refused-by zero (state_energy (model_over d t u) s) (told-by c.bonds_reply.result _ (first_of (energy_checks d s)) (first_of (energy_over_checks d t u s)) own c.in_err-bonds_reply.was))

pub returns : goal.returns
unfolding state_energy model_over model_of
returns c =
    let d = c.args.design.now in
    let t = c.args.tables.now.strand_bonds.now in
    let u = c.args.tables.now.scaffold_bonds.now in
    let s = c.args.configuration.now in
    let own = rw c.positions.ensures at (c.bonds_reply.ensures.value (own_energy_checks d s)) in
    let reply = told-by c.bonds_reply.result (Ok tt) (first_of (energy_checks d s)) (first_of (energy_over_checks d t u s)) own c.in_ok-bonds_reply.was in
    let told = c.in_ok-admitted.ensures in
    let terms = rw told.same at (c.terms_over-terms.ensures) told.state in
    let sum = c.state_sum-sumg.ensures (model_over d t u) terms in
    let is : c.admitted.inside.design.now ≡ d = c.admitted.view_is ∙ told.same in
    let energy : c.mul.result.0 ≡ state_energy (model_over d t u) s = rw (c.mul.ensures, c.rt.ensures, is, sum) refl in
    ap given energy ∙ answered-by zero (state_energy (model_over d t u) s) (reply ∙ sym told.value)
