-- `sdc_common::name_numbers` meets its contract: both lists of names are fit, and the table holds the bases of the strands. Assumes nothing.
use mathlib.Core.Path.{◌≡◌, ap, sym, ◌∙◌}
use mathlib.Core.Bool.{false}
use lib.ListN.{length}
use Rattle.reply.specs.declared.Refusal.TheVariants.{WrongSize}
use Rattle.sdc_common.specs.Lent.{names_of, unfit_names}
use Rattle.sdc_common.specs.Calls.{given_numbers, name_numbers, numbers_after}
use Rattle.reply.proofs.Asked.{admits, refused, exits}
use Rattle.sdc_common.proofs.Given.{numbers-given}
use Rattle.sdc_common.proofs.Fit.{rows-many, fit-names, strands-fit, strands-few}
use Rattle.sdc_common.proofs.name_numbers.Goals as goal

pub returns-in_err-refused_if-clause-result_value : goal.returns-in_err-refused_if-clause-result_value
unfolding name_numbers
returns-in_err-refused_if-clause-result_value c =
    let q = exits c.from_residual.result WrongSize c.unfit_strands.result _ c.from_residual.ensures.1 c.in_err-refused_if.ensures in
    rw (q.1, ← c.unfit_strands.ensures, q.0)

pub returns-in_err-refused_if-clause-numbers_after : goal.returns-in_err-refused_if-clause-numbers_after
unfolding numbers_after
returns-in_err-refused_if-clause-numbers_after c =
    let q = refused WrongSize c.unfit_strands.result _ c.in_err-refused_if.ensures in
    rw (← c.unfit_strands.ensures, q.0)

pub returns-in_err-refused_if-2-clause-result_value : goal.returns-in_err-refused_if-2-clause-result_value
unfolding name_numbers
returns-in_err-refused_if-2-clause-result_value c =
    let q = exits c.from_residual-in_err-refused_if-2.result WrongSize c.unfit_names.result _ c.from_residual-in_err-refused_if-2.ensures.1 c.in_err-refused_if-2.ensures in
    let fit = admits WrongSize c.unfit_strands.result c.in_ok-refused_if.ensures in
    rw (q.1, ← c.unfit_strands.ensures, fit, ← c.unfit_names.ensures, q.0)

pub returns-in_err-refused_if-2-clause-numbers_after : goal.returns-in_err-refused_if-2-clause-numbers_after
unfolding numbers_after
returns-in_err-refused_if-2-clause-numbers_after c =
    let q = refused WrongSize c.unfit_names.result _ c.in_err-refused_if-2.ensures in
    let fit = admits WrongSize c.unfit_strands.result c.in_ok-refused_if.ensures in
    rw (← c.unfit_strands.ensures, fit, ← c.unfit_names.ensures, q.0)

pub refill-requires : goal.refill-requires
refill-requires c =
    let a = c.args in
    let fit = sym c.unfit_strands.ensures ∙ admits WrongSize _ c.in_ok-refused_if.ensures in
    record { fit_names = strands-fit a.users a.text.now a.strands.now fit; names_len_bound = strands-few a.users a.text.now a.strands.now fit }

pub fill_numbers-requires : goal.fill_numbers-requires
fill_numbers-requires c =
    let a = c.args in
    let fit : unfit_names (length a.numbers.now) a.text.now (names_of a.names.now) ≡ false = sym c.unfit_names.ensures ∙ admits WrongSize _ c.in_ok-refused_if-2.ensures in
    record {
      fit_names = fit-names (length a.numbers.now) a.text.now a.names.now fit;
      numbers_len = sym (rows-many (length a.numbers.now) a.text.now a.names.now fit);
    }

pub returns : goal.returns
returns c =
    let all = let a = c.args in
    let fit = sym c.unfit_strands.ensures ∙ admits WrongSize _ c.in_ok-refused_if.ensures in
    let good = sym c.unfit_names.ensures ∙ admits WrongSize _ c.in_ok-refused_if-2.ensures in
    numbers-given a.users a.text.now (names_of a.strands.now) c.refill.new.self fit c.refill.ensures (names_of a.names.now) a.numbers.now _ good c.fill_numbers.ensures in record {
      result_value = ap given_numbers c.len.ensures ∙ all.0;
      numbers_after = all.1;
    }
