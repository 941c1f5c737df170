-- The left choice, found from the end, meets its contract. The invariant: it is the choice among the entries that are left. Assumes nothing.
use mathlib.Core.Path.{◌≡◌}
use Prim.Native.Nat.{ℕ}
use lib.ListN.{length, take}
use lib.Ieee.{Float}
use Rattle.std.specs.Slice.Iter.{iter_rest}
use Rattle.doubles.specs.Least.{last_least}
use Rattle.ensemble.specs.inner.Entries.{table_bond, Keys}
use Rattle.ensemble.proofs.sums.last_least.Given as goal

abbrev pub invariant-loop-k : goal.invariant-loop-k
invariant-loop-k l = record {
  from : l.k-iterator.iter.count ≡ 0;
  part : iter_rest l.k-iterator.iter.iter ≡ take (length (iter_rest l.k-iterator.iter.iter)) l.left.options.now;
  choice : (key : ℕ → Float) → Keys (table_bond l.left.bonds.strands l.left.bonds.cells.now) l.left.options.now l.left.energies.now l.right key → l.least ≡ key (last_least key l.left.options.now) → last_least key l.left.options.now ≡ last_least key (iter_rest l.k-iterator.iter.iter);
}
