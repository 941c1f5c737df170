-- The constrained sum's reply is that of the first check that holds, and its figure document 02's sum. Assumes nothing.
use mathlib.Core.Path.{◌≡◌, sym, ap, ap₂, ◌∙◌}
use mathlib.Core.Bool.{false, ◌||◌}
use mathlib.Core.List.{List}
use Prim.Native.Nat.{ℕ}
use native.Mathlib.Omega.{arith}
use lib.Dec.{eqb}
use borrow.Author.Tests.{eqb-false}
use Rattle.reply.specs.declared.Refusal.TheVariants.{BareScaffold}
use Rattle.design.specs.Design.{positions, strands, model_of}
use Rattle.design.specs.Checks.{sizes_out}
use Rattle.design.proofs.Replies.{bare-false}
use Rattle.design.proofs.Sizes.{sized}
use Rattle.partition.specs.Pass.{allowed}
use Rattle.partition.specs.Weights.{Weights, weights_out}
use Rattle.partition.specs.Summed.{constrained_figure, sum_of_weights}
use Rattle.state_sums.specs.Sizes.{weights_lent, lists_lent, wrong_cells, wrong_lists}
use Rattle.state_sums.specs.Answers.{constraint_of}
use Rattle.state_sums.proofs.Told.{positive, length-lists, sum-refused, constrained-told}
use Rattle.state_sums.proofs.constrained_sum.Goals as goal

pub returns-in_err-admitted-clause-result_value : goal.returns-in_err-admitted-clause-result_value
returns-in_err-admitted-clause-result_value c =
    let a = c.args in
    let d = a.design.now in
    let w = weights_lent (strands d) a.weights.now in
    let l = lists_lent a.lists.now in
    let own = wrong_cells (positions d) w || wrong_lists (positions d) l in
    let same : sizes_out d ≡ false → c.wrong_sizes-own_size.result ≡ own = λ s. let z = sized d s in rw c.positions-positions.ensures at c.wrong_sizes-own_size.ensures.value z.short (rw c.of_design-weights.ensures.same_strands z.few) ∙ ap (λ (v : Weights). wrong_cells (positions d) v || wrong_lists (positions d) l) c.of_design-weights.ensures.same_weights in
    sum-refused d w own (constrained_figure (model_of d) w (constraint_of l)) same (sym c.in_err-admitted.ensures.value) c.from_residual.result c.from_residual.ensures.1

pub invariant_of-constraint : goal.invariant_of-constraint
invariant_of-constraint c =
    let a = c.args in
    let d = a.design.now in
    let l = lists_lent a.lists.now in
    let h = rw c.positions-positions.ensures at c.wrong_sizes-own_size.ensures.listed c.in_ok-admitted.ensures.own in
    let start = h.starting in
    let short = c.in_ok-admitted.ensures.checks.short in
    (rw start h, omega arith)

pub constrained_sum-requires : goal.constrained_sum-requires
constrained_sum-requires c =
    let a = c.args in
    let d = a.design.now in
    let l = lists_lent a.lists.now in
    let h = rw c.positions-positions.ensures at c.wrong_sizes-own_size.ensures.listed c.in_ok-admitted.ensures.own in
    record { a_list_each = length-lists l ∙ h.starting ∙ ap positions (sym c.in_ok-admitted.ensures.same) ∙ sym c.in_ok-formed.ensures.a_count_each }

pub returns-clause-constrained_shown : goal.returns-clause-constrained_shown
returns-clause-constrained_shown c _ =
    let a = c.args in
    let d = a.design.now in
    let w = weights_lent (strands d) a.weights.now in
    let l = lists_lent a.lists.now in
    let none = bare-false (eqb c.positions-positions.result 0) BareScaffold c.in_ok-refused_if.ensures in
    let some = positive (positions d) (eqb-false _ _ (rw c.positions-positions.ensures at none)) in
    let f = rw c.in_ok-admitted.ensures.same at c.in_ok-formed.ensures in
    let same = c.of_design-weights.ensures.same_weights in
    constrained-told d w c.in_ok-admitted.ensures.checks.admitted some (sym (ap (weights_out (model_of d).friends) same) ∙ f.in_form) l (rw c.positions-positions.ensures at c.wrong_sizes-own_size.ensures.listed c.in_ok-admitted.ensures.own)
    (c.constrained_sum.ensures ∙ ap₂ (λ (v : Weights) (options : List (List ℕ)). sum_of_weights v (allowed (constraint_of l) options)) (f.same_weights ∙ same) f.options)
