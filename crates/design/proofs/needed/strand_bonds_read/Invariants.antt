-- The invariant: each two neighbouring positions add at most 255 * 255. Assumes nothing.
use Prim.Native.Nat.{◌*◌, ◌≤◌}
use lib.ListN.{length}
use Rattle.design.proofs.needed.strand_bonds_read.Given as goal

abbrev pub invariant-loop-pair : goal.invariant-loop-pair
invariant-loop-pair l = (length l.yielded ≤ 127) × (l.read ≤ 65025 * length l.yielded)
