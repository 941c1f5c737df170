-- The weights of each two strands meet their contract. Assumes nothing.
use mathlib.Core.Path.{◌≡◌, ap, ◌∙◌}
use Prim.Native.Nat.{◌/◌, ◌%◌}
use Rattle.std.proofs.Common.{rules}
use Rattle.design.specs.Design.{strands, model_of}
use Rattle.partition.specs.Weights.{weight_at}
use Rattle.probabilities.specs.Numbers.{pair_argument}
use Rattle.probabilities.specs.Weighed.{NearExp}
use Rattle.probabilities.proofs.weights.fill_pair_weights.Goals as goal

pub returns-clause-filled : goal.returns-clause-filled
returns-clause-filled c cell below =
    let d = c.args.admitted.now in
    let n = c.strands-strands.result in
    let is : n ≡ strands d = c.strands-strands.ensures ∙ ap strands c.admitted.view_is in
    let filled = c.fill.ensures.filled cell (rw is below) in
    let near : NearExp (pair_argument (model_of d) (cell / n) (cell % n)) (weight_at c.fill.new.digits c.fill.new.powers cell) = search rules in
    rw (← is) near
