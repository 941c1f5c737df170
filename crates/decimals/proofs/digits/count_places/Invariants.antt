-- `decimals::digits::count_places` meets its contract. The loop's invariant: the digits counted and those of what is left are all. A number of 64
-- bits has at most 20 digits. Assumes nothing.
use mathlib.Core.Path.{◌≡◌}
use Prim.Native.Nat.{◌≤◌, ◌<◌, ◌+◌, ◌-◌, ◌^◌}
use Rattle.decimals.specs.Digits.{places}
use Rattle.decimals.proofs.digits.count_places.Given as goal

abbrev pub invariant-loop-left : goal.invariant-loop-left
invariant-loop-left l =
    (1 ≤ l.count) × (l.count ≤ 20) × (l.left < 10 ^ (21 - l.count)) × (l.count + places 10 (20 - l.count) l.left ≡ 1 + places 10 19 l.n)

abbrev pub decreases-loop-left : goal.decreases-loop-left
decreases-loop-left l = l.left
