-- `sdc1d_params::from_params_with_place` meets its contract: what is beyond the limits is refused, and the rest is built. Assumes nothing.
use mathlib.Core.Path.{refl, sym, ◌∙◌}
use lib.ListN.{length}
use lib.Dec.{ltb}
use borrow.Author.Tests.{ltb-true}
use Rattle.std.specs.Prelude.{None}
use Rattle.reply.specs.declared.Refusal.TheVariants.{WrongSize}
use Rattle.reply.proofs.Asked.{exits_nowhere}
use Rattle.sdc1d_params.specs.Params.{Params, Outcome, params_lent, lent_of}
use Rattle.sdc1d_params.specs.Places.{refusal_place, build_reply}
use Rattle.sdc1d_params.proofs.Placed.{told_at}
use Rattle.sdc1d_params.proofs.Written.{kept, entries-reply, positions-reply}
use Rattle.sdc1d_params.proofs.from_params_with_place.Goals as goal

pub returns-in_err-refused_if-clause-reply : goal.returns-in_err-refused_if-clause-reply
unfolding refusal_place build_reply
returns-in_err-refused_if-clause-reply c =
    let a = c.args in
    let p : Params = params_lent a.parameters.now in
    let lent : Outcome = lent_of a.strand_glues.now a.scaffold_glues.now a.dg.now a.ds.now in
    let q = exits_nowhere c.from_residual.result WrongSize c.unfit_entries.result _ c.from_residual.ensures.1 c.in_err-refused_if.ensures in
    told_at p WrongSize None _ _ q.1 refl (entries-reply p lent a.build (sym c.unfit_entries.ensures ∙ q.0))

pub returns-in_err-refused_if-clause-written : goal.returns-in_err-refused_if-clause-written
returns-in_err-refused_if-clause-written c =
    let a = c.args in
    let p : Params = params_lent a.parameters.now in
    let lent : Outcome = lent_of a.strand_glues.now a.scaffold_glues.now a.dg.now a.ds.now in
    let q = exits_nowhere c.from_residual.result WrongSize c.unfit_entries.result _ c.from_residual.ensures.1 c.in_err-refused_if.ensures in
    rw q.1 (kept p lent a.build WrongSize (sym (entries-reply p lent a.build (sym c.unfit_entries.ensures ∙ q.0))))

pub returns-in_err-refused_if-2-clause-reply : goal.returns-in_err-refused_if-2-clause-reply
unfolding refusal_place build_reply
returns-in_err-refused_if-2-clause-reply c =
    let a = c.args in
    let p : Params = params_lent a.parameters.now in
    let lent : Outcome = lent_of a.strand_glues.now a.scaffold_glues.now a.dg.now a.ds.now in
    let q = exits_nowhere c.from_residual-in_err-refused_if-2.result WrongSize (ltb 128 (length a.scaffold_glues.now)) _ c.from_residual-in_err-refused_if-2.ensures.1 c.in_err-refused_if-2.ensures in
    told_at p WrongSize None _ _ q.1 refl (positions-reply p lent a.build (ltb-true _ _ q.0))

pub returns-in_err-refused_if-2-clause-written : goal.returns-in_err-refused_if-2-clause-written
returns-in_err-refused_if-2-clause-written c =
    let a = c.args in
    let p : Params = params_lent a.parameters.now in
    let lent : Outcome = lent_of a.strand_glues.now a.scaffold_glues.now a.dg.now a.ds.now in
    let q = exits_nowhere c.from_residual-in_err-refused_if-2.result WrongSize (ltb 128 (length a.scaffold_glues.now)) _ c.from_residual-in_err-refused_if-2.ensures.1 c.in_err-refused_if-2.ensures in
    rw q.1 (kept p lent a.build WrongSize (sym (positions-reply p lent a.build (ltb-true _ _ q.0))))
