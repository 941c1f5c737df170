-- The count of the states meets its contract. The invariant: what is counted, times the product that is left, is the count, up to the limit.
-- Assumes nothing.
use mathlib.Core.Path.{◌≡◌}
use Prim.Native.Nat.{◌≤◌, ◌*◌, min}
use lib.ListN.{drop}
use Rattle.lists.specs.Build.{product}
use Rattle.ensemble.proofs.states.state_count.Given as goal

abbrev pub invariant-loop-count : goal.invariant-loop-count
invariant-loop-count l = record {
  held : l.states ≤ 1048577;
  counted : min (product l.counts) 1048577 ≡ min (l.states * product (drop l.count-index l.counts)) 1048577;
}
