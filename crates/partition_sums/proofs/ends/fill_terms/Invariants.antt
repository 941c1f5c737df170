-- The invariant: the row is that of the position passed last, and the cells from it on hold the pass's terms. Assumes nothing.
use mathlib.Core.Path.{◌≡◌}
use lib.ListN.{length}
use Rattle.partition_sums.specs.inner.Rows.{Row, Stored}
use Rattle.partition_sums.proofs.ends.fill_terms.Given as goal

abbrev pub invariant-loop-position : goal.invariant-loop-position
invariant-loop-position l =
    Row l.formed.lent l.position l.row × (length l.digits ≡ length l.fn.digits) × (length l.powers ≡ length l.fn.powers)
    × Stored l.formed.lent l.position l.digits l.powers
