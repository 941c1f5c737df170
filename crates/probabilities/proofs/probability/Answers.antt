-- The probability's answer is what is said of it. Assumes nothing.
use mathlib.Core.Path.{sym, ap, ◌∙◌}
use mathlib.Core.Bool.{Bool}
use native.Mathlib.Omega.{arith}
use Rattle.reply.specs.First.{first_of}
use Rattle.design.specs.Design.{positions, model_of}
use Rattle.partition_sums.proofs.Positions.{searchable}
use Rattle.state_sums.specs.Sizes.{lists_lent}
use Rattle.state_sums.specs.Answers.{constraint_of}
use Rattle.probabilities.specs.Answers.{energy_checks}
use Rattle.probabilities.proofs.Lists.{fit, each}
use Rattle.probabilities.proofs.Summable.{free-summed, free-formed, constrained-summed, probable}
use Rattle.probabilities.proofs.probability.Goals as goal

pub invariant_of-constraint : goal.invariant_of-constraint
invariant_of-constraint c =
    let a = c.args in
    let l = lists_lent a.lists.now in
    let h = fit (positions a.design.now) l (rw c.positions.ensures at c.wrong_lists-own_size.ensures) c.in_ok-admitted.ensures.own in
    let short = (searchable c.formed.result.lent).short in
    let many = rw c.in_ok-admitted.ensures.same at c.formed.ensures.a_count_each in
    let start = h.starting in
    (rw start h, omega arith)

pub constrained_sum-requires : goal.constrained_sum-requires
constrained_sum-requires c =
    let a = c.args in
    let e = each (positions a.design.now) (lists_lent a.lists.now) (rw c.positions.ensures at c.wrong_lists-own_size.ensures) c.in_ok-admitted.ensures.own in
    record { a_list_each = e ∙ ap positions (sym c.in_ok-admitted.ensures.same) ∙ sym c.formed.ensures.a_count_each }

pub quotient-requires-clause-in_form : goal.quotient-requires-clause-in_form
quotient-requires-clause-in_form c =
    let d = c.args.design.now in
    let f = rw c.in_ok-admitted.ensures.same at c.formed.ensures in
    let free = free-summed c.formed.result (model_of d) f.options f.near c.free_sum.result c.free_sum.ensures in
    free-formed c.formed.result (model_of d) f.options f.near c.free_sum.result free.right

pub quotient-requires-clause-digits_bound : goal.quotient-requires-clause-digits_bound
quotient-requires-clause-digits_bound c =
    let a = c.args in
    let d = a.design.now in
    let l = lists_lent a.lists.now in
    let told = rw c.positions.ensures at c.wrong_lists-own_size.ensures in
    let f = rw c.in_ok-admitted.ensures.same at c.formed.ensures in
    let e = each (positions d) l told c.in_ok-admitted.ensures.own ∙ sym f.a_count_each in
    (constrained-summed c.formed.result (model_of d) f.options f.near (constraint_of l) e c.constrained_sum.result c.constrained_sum.ensures).digits

pub quotient-requires-clause-modest : goal.quotient-requires-clause-modest
quotient-requires-clause-modest c =
    let a = c.args in
    let d = a.design.now in
    let l = lists_lent a.lists.now in
    let told = rw c.positions.ensures at c.wrong_lists-own_size.ensures in
    let f = rw c.in_ok-admitted.ensures.same at c.formed.ensures in
    let e = each (positions d) l told c.in_ok-admitted.ensures.own ∙ sym f.a_count_each in (
      (constrained-summed c.formed.result (model_of d) f.options f.near (constraint_of l) e c.constrained_sum.result c.constrained_sum.ensures).modest,
      (free-summed c.formed.result (model_of d) f.options f.near c.free_sum.result c.free_sum.ensures).modest,
    )

pub returns : goal.returns
returns c =
    let a = c.args in
    let d = a.design.now in
    let l = lists_lent a.lists.now in
    let told = rw c.positions.ensures at c.wrong_lists-own_size.ensures in
    let f = rw c.in_ok-admitted.ensures.same at c.formed.ensures in
    let e = each (positions d) l told c.in_ok-admitted.ensures.own ∙ sym f.a_count_each in
    let constrained = constrained-summed c.formed.result (model_of d) f.options f.near (constraint_of l) e c.constrained_sum.result c.constrained_sum.ensures in
    let free = free-summed c.formed.result (model_of d) f.options f.near c.free_sum.result c.free_sum.ensures in (
      ap (λ (size : Bool). first_of (energy_checks size d)) (sym told) ∙ sym c.in_ok-admitted.ensures.value,
      probable c.formed.result (model_of d) f.options f.near (constraint_of l) c.constrained_sum.result c.free_sum.result c.quotient.result constrained free c.quotient.ensures,
    )
