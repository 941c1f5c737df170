-- Eight least sums meet their contract. The invariant: those over the first left entries, and the others are to come. Assumes nothing.
use mathlib.Core.Path.{◌≡◌}
use Prim.Native.Nat.{ℕ, ◌+◌, ◌<◌, ◌≤◌}
use lib.ListN.{length, get_or, drop}
use lib.Ieee.{nan}
use Rattle.std.specs.Iterator.Adapters.{zip_first, zip_second}
use Rattle.std.specs.Slice.Iter.{iter_rest}
use Rattle.ensemble.specs.inner.Entries.{table_bond, LeastSum}
use Rattle.ensemble.proofs.sums.eight_least.Given as goal

abbrev pub invariant-loop-strand : goal.invariant-loop-strand
invariant-loop-strand l = record {
  some : length l.yielded + 1 ≤ length l.left.options.now;
  options : iter_rest (zip_first l.strand-iterator) ≡ drop (length l.yielded + 1) l.left.options.now;
  energies : iter_rest (zip_second l.strand-iterator) ≡ drop (length l.yielded + 1) l.left.energies.now;
  sums : (lane : ℕ) → lane < 8 → LeastSum (table_bond l.left.bonds.strands l.left.bonds.cells.now) l.left.options.now l.left.energies.now (length l.yielded + 1) (l.right + lane) (get_or l.least lane nan);
}
