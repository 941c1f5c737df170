-- `short_sequences::short_sequence` meets its contract. The invariant: the sequence at the rank is that at the rank left among those of so many bases or
-- more. Assumes nothing.
use mathlib.Core.Path.{◌≡◌}
use mathlib.Core.List.{[]}
use Prim.Native.Nat.{◌≤◌, ◌<◌, ◌-◌, ◌^◌}
use lib.ListN.{get_or}
use Rattle.short_sequences.specs.Sequences.{of_lengths, sequence_at}
use Rattle.short_sequences.proofs.Lengths.{powers}
use Rattle.short_sequences.proofs.short_sequence.Given as goal

abbrev pub invariant-loop-count : goal.invariant-loop-count
invariant-loop-count l =
    (l.bases ≤ 8)
    × (l.count ≡ 4 ^ l.bases)
    × (l.left < powers (9 - l.bases) l.bases)
    × (l.left ≤ l.rank)
    × (sequence_at l.rank ≡ get_or (of_lengths (9 - l.bases) l.bases) l.left [])

abbrev pub decreases-loop-count : goal.decreases-loop-count
decreases-loop-count l = 9 - l.bases
