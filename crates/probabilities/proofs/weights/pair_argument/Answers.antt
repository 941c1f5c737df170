-- A pair's argument is the model's. Assumes nothing.
use Rattle.probabilities.proofs.NearWeights.{pair-is}
use Rattle.probabilities.proofs.weights.pair_argument.Goals as goal

pub returns : goal.returns
returns c = rw (← c.admitted.view_is) (pair-is c.admitted.inside.design.now c.args.left c.args.right c.strand_bond.ensures)
