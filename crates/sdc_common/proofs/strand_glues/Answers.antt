-- `sdc_common::strand_glues` meets its contract: the names are fit, and at most 31 bases have numbers that fit a byte. Assumes nothing.
use mathlib.Core.Path.{sym, ◌∙◌}
use mathlib.Core.Bool.{not}
use Prim.Native.Nat.{◌*◌, ◌≤◌}
use lib.Dec.{eqb, ltb}
use lib.ListN.{length}
use borrow.Author.Tests.{eqb-true, not-false, ltb-true, ltb-false}
use Rattle.reply.specs.declared.Refusal.TheVariants.{WrongSize, TooManyGlues}
use Rattle.sdc_common.specs.Lent.{names_of}
use Rattle.sdc_common.specs.Calls.{strand_glues, glues_after}
use Rattle.reply.proofs.Asked.{admits, refused, exits}
use Rattle.sdc_common.proofs.Given.{glues-many, glues-given}
use Rattle.sdc_common.proofs.Fit.{strands-many, strands-fit, strands-few}
use Rattle.sdc_common.proofs.strand_glues.Goals as goal

pub returns-in_err-refused_if-clause-result_value : goal.returns-in_err-refused_if-clause-result_value
unfolding strand_glues
returns-in_err-refused_if-clause-result_value c =
    let q = exits c.from_residual.result WrongSize c.unfit_strands.result _ c.from_residual.ensures.1 c.in_err-refused_if.ensures in
    rw (q.1, ← c.unfit_strands.ensures, q.0)

pub returns-in_err-refused_if-clause-glues_after : goal.returns-in_err-refused_if-clause-glues_after
unfolding glues_after
returns-in_err-refused_if-clause-glues_after c =
    let q = refused WrongSize c.unfit_strands.result _ c.in_err-refused_if.ensures in
    rw (← c.unfit_strands.ensures, q.0)

pub returns-in_err-refused_if-2-clause-result_value : goal.returns-in_err-refused_if-2-clause-result_value
unfolding strand_glues
returns-in_err-refused_if-2-clause-result_value c =
    let q = exits c.from_residual-in_err-refused_if-2.result WrongSize (not (eqb (length c.args.glues.now) (3 * c.args.users))) _ c.from_residual-in_err-refused_if-2.ensures.1 c.in_err-refused_if-2.ensures in
    let fit = admits WrongSize c.unfit_strands.result c.in_ok-refused_if.ensures in
    rw (q.1, ← c.unfit_strands.ensures, fit, q.0)

pub returns-in_err-refused_if-2-clause-glues_after : goal.returns-in_err-refused_if-2-clause-glues_after
unfolding glues_after
returns-in_err-refused_if-2-clause-glues_after c =
    let q = refused WrongSize (not (eqb (length c.args.glues.now) (3 * c.args.users))) _ c.in_err-refused_if-2.ensures in
    let fit = admits WrongSize c.unfit_strands.result c.in_ok-refused_if.ensures in
    rw (← c.unfit_strands.ensures, fit, q.0)

pub refill-requires : goal.refill-requires
refill-requires c =
    let a = c.args in
    let fit = sym c.unfit_strands.ensures ∙ admits WrongSize _ c.in_ok-refused_if.ensures in
    record { fit_names = strands-fit a.users a.text.now a.strands.now fit; names_len_bound = strands-few a.users a.text.now a.strands.now fit }

pub returns-in_err-refused_if-3 : goal.returns-in_err-refused_if-3
returns-in_err-refused_if-3 c =
    let a = c.args in
    let q = exits c.from_residual-in_err-refused_if-3.result TooManyGlues (ltb 31 c.len.result) _ c.from_residual-in_err-refused_if-3.ensures.1 c.in_err-refused_if-3.ensures in
    let fit = sym c.unfit_strands.ensures ∙ admits WrongSize _ c.in_ok-refused_if.ensures in
    let lent = eqb-true _ _ (not-false _ (admits WrongSize (not (eqb (length a.glues.now) (3 * a.users))) c.in_ok-refused_if-2.ensures)) in
    let all = glues-many a.users a.text.now (names_of a.strands.now) c.refill.new.self fit c.refill.ensures a.glues.now lent (rw (← c.len.ensures) (ltb-true _ _ q.0)) in
    record {
      result_value = rw q.1 all.0;
      glues_after = all.1;
    }

pub fill_glues-requires : goal.fill_glues-requires
fill_glues-requires c =
    let a = c.args in
    let fit = sym c.unfit_strands.ensures ∙ admits WrongSize _ c.in_ok-refused_if.ensures in
    let lent = eqb-true _ _ (not-false _ (admits WrongSize (not (eqb (length a.glues.now) (3 * a.users))) c.in_ok-refused_if-2.ensures)) in
    record {
      fit_names = strands-fit a.users a.text.now a.strands.now fit;
      glues_len = lent ∙ sym (strands-many a.users a.text.now a.strands.now fit);
      count_bound = rw (← c.len.ensures) (ltb-false _ _ (admits TooManyGlues (ltb 31 c.len.result) c.in_ok-refused_if-3.ensures));
    }

pub returns : goal.returns
returns c =
    let all = let a = c.args in
    let fit = sym c.unfit_strands.ensures ∙ admits WrongSize _ c.in_ok-refused_if.ensures in
    let lent = eqb-true _ _ (not-false _ (admits WrongSize (not (eqb (length a.glues.now) (3 * a.users))) c.in_ok-refused_if-2.ensures)) in
    let few : length c.refill.new.self ≤ 31 = rw (← c.len.ensures) (ltb-false _ _ (admits TooManyGlues (ltb 31 c.len.result) c.in_ok-refused_if-3.ensures)) in
    glues-given a.users a.text.now (names_of a.strands.now) c.refill.new.self fit c.refill.ensures a.glues.now _ lent few c.fill_glues.ensures in record {
      result_value = all.0;
      glues_after = all.1;
    }
