-- The invariant: of the positions passed the cells hold the sums of their strands, and the totals theirs; of the others the cells hold the pass's terms. The
-- row holds what can stand before the options of the position passed last. Assumes nothing.
use mathlib.Core.Path.{◌≡◌}
use Prim.Native.Nat.{◌-◌}
use lib.ListN.{length}
use Rattle.partition_sums.specs.inner.Rows.{Before, Stored, SummedTo, TotalsTo}
use Rattle.partition_sums.proofs.ends.fill_sums.Given as goal

abbrev pub invariant-loop-position : goal.invariant-loop-position
invariant-loop-position l =
    (length l.digits ≡ length l.fn.digits) × (length l.powers ≡ length l.fn.powers) × Before l.formed.lent (l.position-counter - 1) l.before
    × Stored l.formed.lent l.position-counter l.digits l.powers × SummedTo l.formed.lent l.position-counter l.digits l.powers × (length l.totals ≡ 128)
    × TotalsTo l.formed.lent l.position-counter l.totals
