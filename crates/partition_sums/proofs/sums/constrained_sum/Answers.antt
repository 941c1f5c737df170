-- The sum over the states that meet a constraint meets its contract. Assumes nothing.
use mathlib.Core.Path.{◌≡◌, sym, ap, ◌∙◌}
use native.Mathlib.Omega.{arith}
use Rattle.partition.specs.Pass.{allowed}
use Rattle.partition.specs.Sum.{zero_weight}
use Rattle.partition.specs.Weights.{place_weight, pair_weight}
use Rattle.partition.specs.Summed.{sum_of_weights}
use Rattle.partition.specs.inner.Used.{PlaceFit, PairFit, InUse}
use Rattle.partition.proofs.Summed.{used-allowed}
use Rattle.partition_sums.specs.Layout.{options_of, weights_of}
use Rattle.partition_sums.proofs.Constraints.{any-contains}
use Rattle.partition_sums.proofs.Keeping.{kept-options, none-left-is, kept-searchable, zero-sum}
use Rattle.partition_sums.proofs.sums.constrained_sum.Goals as goal

pub returns-then-contains : goal.returns-then-contains
returns-then-contains c =
    let w = weights_of c.args.formed.now.lent.weights in
    let k = c.keep_allowed.ensures in
    let none = none-left-is k ∙ sym (c.contains.ensures.value ∙ any-contains c.keep_allowed.new.kept_counts 0) ∙ c.if-contains.true in
    let zero : c.default.result ≡ zero_weight = λ i. record { digits = c.default.ensures.0 i; power = c.default.ensures.1 i } in
    zero ∙ zero-sum 400000 (place_weight w) (pair_weight w) _ none ∙ ap (sum_of_weights w) (kept-options k c.requires.a_list_each)

pub invariant_of-options : goal.invariant_of-options
invariant_of-options c =
    let some = sym (c.contains.ensures.value ∙ any-contains c.keep_allowed.new.kept_counts 0) ∙ c.if-contains.false in
    record { searchable = kept-searchable c.keep_allowed.ensures c.args.formed.now.lent.options.searchable some }

pub invariant_of-free_sum : goal.invariant_of-free_sum
invariant_of-free_sum c =
    let f = c.args.formed.now in
    let w = weights_of f.lent.weights in
    let some = f.some in
    let k = c.keep_allowed.ensures in
    let number = k.positions in
    let used : InUse w 0 (allowed c.args.constraint.now (options_of f.lent.options)) = used-allowed (PlaceFit 400000 (place_weight w)) (PairFit 400000 (pair_weight w)) 0 c.args.constraint.now (options_of f.lent.options) f.in_use in
    record { some = omega arith; in_use = rw (kept-options k c.requires.a_list_each) used }

pub returns : goal.returns
returns c = c.free_sum.ensures ∙ ap (sum_of_weights (weights_of c.args.formed.now.lent.weights)) (kept-options c.keep_allowed.ensures c.requires.a_list_each)
