-- The invariant: the lengths are kept, and the cells passed hold what the weight's call answered. Assumes nothing.
use mathlib.Core.Path.{◌≡◌}
use Prim.Native.Nat.{ℕ, ◌<◌}
use lib.ListN.{length}
use Rattle.partition.specs.Weights.{weight_at}
use Rattle.probabilities.proofs.weights.fill.Given as goal

abbrev pub invariant-loop-cell : goal.invariant-loop-cell
invariant-loop-cell g l =
    (length l.digits ≡ length l.fn.digits) × (length l.powers ≡ length l.fn.powers)
    × ((cell : ℕ) → cell < l.cell → goal.F-post g l.weight cell (weight_at l.digits l.powers cell))
