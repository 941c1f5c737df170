-- The invariant: whatever f the terms are, the whole sum is that from the sum so far over the options left. Assumes nothing.
use mathlib.Core.Path.{◌≡◌}
use Prim.Native.Nat.{ℕ, ◌+◌, ◌^◌, ◌<◌}
use lib.ListN.{length, get_or, drop}
use Rattle.partition.specs.declared.Term.{Term}
use Rattle.partition.specs.Pass.{sum_terms, sum_from}
use Rattle.partition.specs.inner.Used.{Fit}
use Rattle.partition_sums.proofs.rows.sum_terms.Given as goal

abbrev pub invariant-loop-x : goal.invariant-loop-x
invariant-loop-x g l =
    Fit (2 ^ 31 + l.x-index) l.sum
    × ((f : ℕ → Term) → ((k : ℕ) (t : Term) → k < length l.options → goal.F-post g l.term (get_or l.options k 0) t → t ≡ f (get_or l.options k 0)) → sum_terms f l.options ≡ sum_from f l.sum (drop (l.x-index + 1) l.options))
