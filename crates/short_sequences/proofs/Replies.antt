-- The checks of the call are sorted by number, so its reply is document 02's. Assumes nothing.
use mathlib.Core.List.{List}
use Prim.Native.Nat.{ℕ}
use Rattle.reply.specs.First.{first_of, LowestGiven}
use Rattle.reply.proofs.Lowest.{lowest-given}
use Rattle.short_sequences.specs.Answers.{sequence_checks}

pub sequence-reply : (rank : ℕ) (bytes : List ℕ) → LowestGiven (sequence_checks rank bytes) (first_of (sequence_checks rank bytes))
sequence-reply rank bytes = lowest-given (sequence_checks rank bytes) tt
