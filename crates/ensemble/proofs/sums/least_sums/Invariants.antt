-- The least sums meet their contract. The invariant: the eights passed have theirs. Assumes nothing.
use Prim.Native.Nat.{ℕ, ◌*◌, ◌<◌}
use lib.ListN.{length, get_or}
use lib.Ieee.{nan}
use Rattle.ensemble.specs.inner.Entries.{table_bond, LeastSum}
use Rattle.ensemble.proofs.sums.least_sums.Given as goal

abbrev pub invariant-loop-eight : goal.invariant-loop-eight
invariant-loop-eight l = (r : ℕ) → r < 8 * l.eight → LeastSum (table_bond l.left.bonds.strands l.left.bonds.cells.now) l.left.options.now l.left.energies.now (length l.left.options.now) r (get_or l.best r nan)
