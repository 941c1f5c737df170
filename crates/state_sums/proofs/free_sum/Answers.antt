-- The free sum's reply is that of the first check that holds, and its figure document 02's sum. Assumes nothing.
use mathlib.Core.Path.{◌≡◌, sym, ap, ap₂, ◌∙◌}
use mathlib.Core.Bool.{false}
use lib.Dec.{eqb}
use borrow.Author.Tests.{eqb-false}
use Rattle.reply.specs.declared.Refusal.TheVariants.{BareScaffold}
use Rattle.design.specs.Design.{positions, strands, model_of}
use Rattle.design.specs.Checks.{sizes_out}
use Rattle.design.proofs.Replies.{bare-false}
use Rattle.design.proofs.Sizes.{sized}
use Rattle.partition.specs.Weights.{weights_out}
use Rattle.partition.specs.Summed.{free_figure, sum_of_weights}
use Rattle.state_sums.specs.Sizes.{weights_lent, wrong_cells}
use Rattle.state_sums.proofs.Told.{positive, sum-refused, free-told}
use Rattle.state_sums.proofs.free_sum.Goals as goal

pub returns-in_err-admitted-clause-result_value : goal.returns-in_err-admitted-clause-result_value
returns-in_err-admitted-clause-result_value c =
    let a = c.args in
    let d = a.design.now in
    let w = weights_lent (strands d) a.weights.now in
    let same : sizes_out d ≡ false → c.wrong_cells-own_size.result ≡ wrong_cells (positions d) w = λ s. let z = sized d s in rw c.positions-positions.ensures at c.wrong_cells-own_size.ensures z.short (rw c.of_design-weights.ensures.same_strands z.few) ∙ ap (wrong_cells (positions d)) c.of_design-weights.ensures.same_weights in
    sum-refused d w (wrong_cells (positions d) w) (free_figure (model_of d) w) same (sym c.in_err-admitted.ensures.value) c.from_residual.result c.from_residual.ensures.1

pub returns-clause-free_shown : goal.returns-clause-free_shown
returns-clause-free_shown c _ =
    let a = c.args in
    let d = a.design.now in
    let w = weights_lent (strands d) a.weights.now in
    let none = bare-false (eqb c.positions-positions.result 0) BareScaffold c.in_ok-refused_if.ensures in
    let some = positive (positions d) (eqb-false _ _ (rw c.positions-positions.ensures at none)) in
    let f = rw c.in_ok-admitted.ensures.same at c.in_ok-formed.ensures in
    let same = c.of_design-weights.ensures.same_weights in
    free-told d w c.in_ok-admitted.ensures.checks.admitted some (sym (ap (weights_out (model_of d).friends) same) ∙ f.in_form) (c.free_sum.ensures ∙ ap₂ sum_of_weights (f.same_weights ∙ same) f.options)
