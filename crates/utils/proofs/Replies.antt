-- Each call's checks are sorted by number, so that of several that hold the lowest is given. Assumes nothing.
use mathlib.Core.List.{List, ◌++◌}
use Prim.Native.Nat.{ℕ}
use lib.Ieee.{Float}
use Rattle.reply.specs.First.{first_of, LowestGiven}
use Rattle.reply.proofs.Lowest.{lowest-given}
use Rattle.utils.specs.Loops.{loop_checks}
use Rattle.utils.specs.Single.{sequence_checks}
use Rattle.utils.specs.Pair.{pair_checks}
use Rattle.utils.specs.Strength.{excess_checks}

pub loop-reply : (length kind : ℕ) → LowestGiven (loop_checks length kind) (first_of (loop_checks length kind))
loop-reply length kind = lowest-given (loop_checks length kind) tt

pub sequence-reply : (s : List ℕ) → LowestGiven (sequence_checks s) (first_of (sequence_checks s))
sequence-reply s = lowest-given (sequence_checks s) tt

pub pair-reply : (a b : List ℕ) → LowestGiven (pair_checks a b) (first_of (pair_checks a b))
pair-reply a b = lowest-given (pair_checks a b) tt

pub sequence-strength-reply : (s : List ℕ) (excess : Float) → LowestGiven (sequence_checks s ++ excess_checks excess) (first_of (sequence_checks s ++ excess_checks excess))
sequence-strength-reply s excess = lowest-given (sequence_checks s ++ excess_checks excess) tt

pub pair-strength-reply : (a b : List ℕ) (excess : Float) → LowestGiven (pair_checks a b ++ excess_checks excess) (first_of (pair_checks a b ++ excess_checks excess))
pair-strength-reply a b excess = lowest-given (pair_checks a b ++ excess_checks excess) tt
