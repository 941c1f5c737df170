-- The choice of an entry meets its contract. The invariant: of the options passed, the one kept, with its key, and the others are to come. Assumes nothing.
use mathlib.Core.Path.{◌≡◌}
use Prim.Native.Nat.{ℕ, ◌+◌, ◌<◌, ◌≤◌}
use lib.ListN.{length, drop}
use lib.Ieee.{Float}
use Rattle.std.specs.Iterator.Adapters.{zip_first, zip_second}
use Rattle.std.specs.Slice.Iter.{iter_rest}
use Rattle.ensemble.specs.inner.Entries.{KeyedBy, DecidedBy}
use Rattle.ensemble.proofs.Choosing.{Kept}
use Rattle.ensemble.proofs.attach.Entries.least.Given as goal

abbrev pub invariant-loop-next : goal.invariant-loop-next
invariant-loop-next g l = record {
  known : l.strand < 64;
  some : length l.yielded + 1 ≤ length l.self.options.now;
  options : iter_rest (zip_first l.next-iterator) ≡ drop (length l.yielded + 1) l.self.options.now;
  energies : iter_rest (zip_second l.next-iterator) ≡ drop (length l.yielded + 1) l.self.energies.now;
  kept : (value : ℕ → Float) (better : ℕ → ℕ → ℕ) → KeyedBy (goal.K-post g l.key) l.self.options.now l.self.energies.now value → DecidedBy (goal.S-post g l.stays) value better → Kept better value l.self.options.now (length l.yielded + 1) l.strand l.energy;
}
