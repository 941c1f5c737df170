-- `sdc1d_params::first_repeated` meets its contract: the cells passed over are marked, and none is one of a pair met before. Assumes nothing.
use mathlib.Core.Path.{◌≡◌}
use mathlib.Core.Bool.{false}
use Prim.Native.Nat.{ℕ, ◌<◌}
use Rattle.sdc1d_params.specs.Places.{repeats}
use Rattle.sdc1d_params.proofs.Marked.{seen_after, nth}
use Rattle.sdc1d_params.proofs.cells.first_repeated.Given as goal

abbrev pub invariant-loop-i : goal.invariant-loop-i
invariant-loop-i l = (l.seen ≡ seen_after (nth l.cells) l.i) × ((k : ℕ) → k < l.i → repeats l.cells k ≡ false)
