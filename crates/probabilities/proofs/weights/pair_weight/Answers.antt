-- The weight of two strands meets its contract. Assumes nothing.
use Rattle.probabilities.proofs.NearWeights.{pair-taken, pair-near}
use Rattle.probabilities.proofs.weights.pair_weight.Goals as goal

pub exp_weight-requires : goal.exp_weight-requires
exp_weight-requires c =
    let a = c.args in
    let d = a.admitted.now in
    let r = c.requires in
    let is = c.admitted.view_is in
    pair-taken d (rw is at c.hold_doubles.ensures) (rw is at c.admitted.invariant.0.admitted) a.left a.right r.left_in_bounds r.right_in_bounds c.pair_argument.ensures

pub returns : goal.returns
returns c =
    let a = c.args in
    let d = a.admitted.now in
    let r = c.requires in
    let is = c.admitted.view_is in
    pair-near d (rw is at c.hold_doubles.ensures) (rw is at c.admitted.invariant.0.admitted) a.left a.right r.left_in_bounds r.right_in_bounds c.pair_argument.ensures c.exp_weight.ensures
