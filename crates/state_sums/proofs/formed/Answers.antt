-- The options of an admitted design, with weights in form, meet their contract. Assumes nothing.
use mathlib.Core.Path.{◌≡◌, refl, sym, ◌∙◌}
use native.Mathlib.Omega.{arith}
use lib.ListN.{length}
use Rattle.reply.specs.declared.Refusal.TheVariants.{WeightOut}
use Rattle.design.specs.Design.{positions, model_of}
use Rattle.design.proofs.Replies.{bare-false}
use Rattle.partition_sums.specs.Layout.{weights_of}
use Rattle.partition_sums.proofs.Options.{options-in}
use Rattle.state_sums.proofs.Told.{bare-true, if-err, weights-told, weights-used}
use Rattle.state_sums.proofs.formed.Goals as goal

pub returns-in_err-refused_if-clause-not_in_form : goal.returns-in_err-refused_if-clause-not_in_form
returns-in_err-refused_if-clause-not_in_form c =
    let given = rw c.tabled.ensures at c.options_of-options.ensures in
    let told = weights-told c.args.admitted.now (weights_of c.args.weights) (given.option_rows (model_of c.args.admitted.now) refl) c.weights_out.ensures in
    if-err c.from_residual.result (sym told ∙ bare-true c.weights_out.result WeightOut c.in_err-refused_if.ensures)

pub invariant_of-result : goal.invariant_of-result
invariant_of-result c =
    let given = rw c.tabled.ensures at c.options_of-options.ensures in
    let some = c.requires.scaffold_nonzero in
    let number : length c.options_of-options.result.counts.now ≡ positions c.args.admitted.now = given.counts_len in
    record {
      some = omega arith;
      in_use = weights-used c.args.admitted.now (weights_of c.args.weights) (given.option_rows (model_of c.args.admitted.now) refl) c.weights_out.ensures (bare-false c.weights_out.result WeightOut c.in_ok-refused_if.ensures);
    }

pub returns-clause-in_form : goal.returns-clause-in_form
returns-clause-in_form c =
    let given = rw c.tabled.ensures at c.options_of-options.ensures in
    let told = weights-told c.args.admitted.now (weights_of c.args.weights) (given.option_rows (model_of c.args.admitted.now) refl) c.weights_out.ensures in
    sym told ∙ bare-false c.weights_out.result WeightOut c.in_ok-refused_if.ensures

pub returns-clause-options : goal.returns-clause-options
returns-clause-options c =
    let given = rw c.tabled.ensures at c.options_of-options.ensures in
    options-in (given.option_rows (model_of c.args.admitted.now) refl)
