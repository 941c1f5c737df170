-- The worked ranks of specs/Cases.antt, computed: the length that a rank falls into, and the letters by its rank there. Assumes nothing.
use mathlib.Core.Path.{◌≡◌, ◌∙◌}
use mathlib.Core.Bool.{cond}
use mathlib.Core.List.{List, []}
use Prim.Native.Nat.{ℕ, zero, suc, ◌-◌, ◌^◌, ◌<◌}
use native.Mathlib.Decide.{dec_lt}
use native.Mathlib.Omega.{arith}
use lib.Dec.{ltb, lit≤}
use lib.ListN.{get_or, replicate}
use borrow.Author.Tests.{lt-ltb, le-ltb}
use Rattle.lists.specs.Build.{product}
use Rattle.model.specs.States.{choices, choice_at}
use Rattle.short_sequences.specs.Sequences.{letters, of_lengths, sequence_at}
use Rattle.short_sequences.specs.Cases.{WorkedRanks}
use Rattle.short_sequences.proofs.Lengths.{powers, shortest-at, longer-at}

-- the sequence by its length and its rank there
abbrev spelled_out : ℕ → ℕ → ℕ → List ℕ
spelled_out zero n rank = []
spelled_out (suc more) n rank = cond (ltb rank (4 ^ n)) (choice_at (replicate n letters) rank) (spelled_out more (suc n) (rank - 4 ^ n))

spelled_out_lem : (more n rank : ℕ) → rank < powers more n → get_or (of_lengths more n) rank [] ≡ spelled_out more n rank
spelled_out_lem zero n rank h = absurd (omega arith)
spelled_out_lem (suc more) n rank h = go (dec_lt rank (4 ^ n)) (λ l. spelled_out_lem more (suc n) (rank - 4 ^ n) l)
  where
    go : Dec (rank < 4 ^ n) → (rank - 4 ^ n < powers more (suc n) → get_or (of_lengths more (suc n)) (rank - 4 ^ n) [] ≡ spelled_out more (suc n) (rank - 4 ^ n))
        → get_or (of_lengths (suc more) n) rank [] ≡ spelled_out (suc more) n rank
    go (yes l) rest = rw (lt-ltb rank (4 ^ n) l) (shortest-at more n rank l)
    go (no l) rest = rw (le-ltb rank (4 ^ n) (omega arith)) (longer-at more n rank (omega arith) ∙ rest (omega arith))

at-rank : (rank : ℕ) → rank < 87376 → sequence_at rank ≡ spelled_out 7 2 rank
at-rank rank h = spelled_out_lem 7 2 rank h

pub worked-ranks : WorkedRanks
unfolding choice_at choices product
worked-ranks =
    record {
      aa = at-rank 0 (lit≤ tt);
      ac = at-rank 1 (lit≤ tt);
      at = at-rank 3 (lit≤ tt);
      ca = at-rank 4 (lit≤ tt);
      tt = at-rank 15 (lit≤ tt);
      aaa = at-rank 16 (lit≤ tt);
      ttt = at-rank 79 (lit≤ tt);
      aaaa = at-rank 80 (lit≤ tt);
      five = at-rank 336 (lit≤ tt);
      six = at-rank 1360 (lit≤ tt);
      seven = at-rank 5456 (lit≤ tt);
      eight = at-rank 21840 (lit≤ tt);
      last = at-rank 87375 (lit≤ tt);
    }
