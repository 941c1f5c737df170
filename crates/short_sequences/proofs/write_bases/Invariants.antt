-- The writing of the bases meets its contract. The invariant: the letters of the places passed stand in front, and those left are the sequence of
-- the later places at the rank left. Assumes nothing.
use mathlib.Core.Path.{◌≡◌}
use Prim.Native.Nat.{◌<◌, ◌-◌, ◌^◌}
use lib.ListN.{replicate, take}
use Rattle.lists.proofs.Front.{Front}
use Rattle.model.specs.States.{choice_at}
use Rattle.short_sequences.specs.Sequences.{letters}
use Rattle.short_sequences.proofs.write_bases.Given as goal

abbrev pub invariant-loop-byte : goal.invariant-loop-byte
invariant-loop-byte l =
    record {
      share : l.later ≡ 4 ^ (l.bases - l.byte-index);
      inside : l.left < l.later;
      front : Front (take l.bases l.fn.bytes) (choice_at (replicate l.bases letters) l.rank) (choice_at (replicate (l.bases - l.byte-index) letters) l.left) l.byte-index l.byte-items;
    }
