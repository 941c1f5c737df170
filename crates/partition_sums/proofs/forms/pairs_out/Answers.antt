-- The look at a left strand's pairs meets its contract. Assumes nothing.
use mathlib.Core.Path.{ap, ◌∙◌}
use Rattle.partition.specs.Weights.{pair_out, unformed}
use Rattle.partition_sums.specs.Layout.{weights_of}
use Rattle.partition_sums.specs.inner.Rows.{out_in}
use Rattle.partition_sums.proofs.Outs.{any-below}
use Rattle.partition_sums.proofs.forms.pairs_out.Goals as goal

pub returns : goal.returns
returns c =
    let l = c.args.lent.now in
    let row = c.pair_row.result in
    c.row_out.ensures
    ∙ any-below (out_in row.digits.now row.powers.now) (pair_out (weights_of l.weights) c.args.left) l.weights.strands c.args.right.now c.requires.right_in_bounds (λ x h. ap unformed (c.pair_row.ensures.weights x h))
