-- The invariant: the cells passed hold the probabilities of their occupants, and the others the sums over the states that have them. Assumes nothing.
use mathlib.Core.Path.{◌≡◌}
use Prim.Native.Nat.{ℕ, ◌/◌, ◌%◌, ◌≤◌, ◌<◌}
use lib.ListN.{length}
use Rattle.design.specs.Design.{positions, model_of}
use Rattle.partition.specs.Weights.{weight_at}
use Rattle.partition.specs.Summed.{occupant_sum_at}
use Rattle.partition_sums.specs.Layout.{options_of, weights_of}
use Rattle.probabilities.specs.Numbers.{Probability}
use Rattle.probabilities.specs.Occupants.{only_here}
use Rattle.probabilities.proofs.occupants.fill_occupants.Given as goal

abbrev pub invariant-loop-cell : goal.invariant-loop-cell
invariant-loop-cell l =
    (length l.digits ≡ length l.fn.digits) × (length l.powers ≡ length l.fn.powers)
    × ((k : ℕ) → k < l.cell → Probability (model_of l.admitted) (only_here (positions l.admitted) (k / l.strands) (k % l.strands)) (weight_at l.digits l.powers k))
    × ((k : ℕ) → l.cell ≤ k → k < l.cells → weight_at l.digits l.powers k ≡ occupant_sum_at (weights_of l.formed.lent.weights) (options_of l.formed.lent.options) (k / l.strands) (k % l.strands))
