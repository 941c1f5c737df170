-- The invariant: the lengths are kept, the cells passed hold what the weight's call answered, and those outside of the row what they held. Assumes nothing.
use mathlib.Core.Path.{◌≡◌}
use mathlib.Core.Logic.{◌⊎◌}
use Prim.Native.Nat.{ℕ, ◌+◌, ◌<◌, ◌≤◌}
use lib.ListN.{length}
use Rattle.partition.specs.Weights.{weight_at}
use Rattle.partition_sums.proofs.ends.fill_row.Given as goal

abbrev pub invariant-loop-strand : goal.invariant-loop-strand
invariant-loop-strand g l =
    (length l.digits ≡ length l.fn.digits) × (length l.powers ≡ length l.fn.powers)
    × ((x : ℕ) → x < l.strand → goal.F-post g l.weight x (weight_at l.digits l.powers (l.first + x)))
    × ((cell : ℕ) → (cell < l.first) ⊎ (l.first + l.strands ≤ cell) → weight_at l.digits l.powers cell ≡ weight_at l.fn.digits l.fn.powers cell)
