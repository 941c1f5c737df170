-- The filling of all rows of the options left meets its contract. The invariant: the rows before `position` are filled. Assumes nothing.
use mathlib.Core.Path.{◌≡◌}
use mathlib.Core.List.{[]}
use Prim.Native.Nat.{ℕ, ◌<◌}
use lib.ListN.{length, get_or}
use Rattle.partition_sums.specs.Layout.{options_at}
use Rattle.partition_sums.proofs.Keeping.{KeptAt}
use Rattle.partition_sums.proofs.allowed.keep_allowed.Given as goal

abbrev pub invariant-loop-position : goal.invariant-loop-position
invariant-loop-position l =
    (length l.kept_rows ≡ length l.initial.kept_rows)
    × (length l.kept_counts ≡ length l.initial.kept_counts)
    × ((i : ℕ) → i < l.position → KeptAt (λ j. get_or l.constraint j []) (options_at l.options.rows.now l.options.counts.now) l.kept_rows l.kept_counts i)
