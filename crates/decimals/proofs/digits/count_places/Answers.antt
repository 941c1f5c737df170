use mathlib.Core.Path.{◌≡◌}
use Prim.Native.Nat.{suc, ◌<◌, ◌+◌, ◌-◌}
use native.Mathlib.Omega.{arith}
use Rattle.decimals.proofs.Written.{places-more, places-one, tenth-lt, not_last}
use Rattle.decimals.proofs.digits.count_places.Goals as goal

pub loop-left-preserved : goal.loop-left-preserved
loop-left-preserved c =
    let l = c.loop-left in
    let few : l.count < 20 = not_last l.count l.left l.invariant.1 c.loop-left-test.true l.invariant.2 in
    let k = 20 - (l.count + 1) in
    let e : 20 - l.count ≡ suc k = omega arith in
    let f : 21 - l.count ≡ suc (21 - (l.count + 1)) = omega arith in
    let more = places-more k l.left c.loop-left-test.true in
    let inv = rw e at l.invariant.3 in
    (omega arith, omega arith, tenth-lt (21 - (l.count + 1)) l.left (rw f at l.invariant.2), omega (arith, more, inv))

pub returns : goal.returns
returns c = omega (arith, places-one (20 - c.loop-left.count) c.loop-left.left (omega arith))
