use native.Mathlib.Nat.{le_of_lt}
use native.Mathlib.Omega.{arith}
use Prim.Native.Nat.{◌+◌, ◌-◌, ◌*◌, ◌/◌}
use Rattle.logarithm.proofs.Steps.{mul_right}
use Rattle.exponential.proofs.Steps.{Powered, powered-none, powered-next, powered-all}
use Rattle.exponential.proofs.exp_rest.Goals as goal

pub loop-j-init : goal.loop-j-init
loop-j-init c = powered-none _

more : (c : goal.After-mul_units) → Powered c.args.s (c.loop-j.j + 1 - 1) (c.mul_units.result / c.loop-j.j) (c.loop-j.sum + c.mul_units.result / c.loop-j.j)
more c =
    let l = c.loop-j in
    let s = c.args.s in
    let product = mul_right l.term (s * 256) l.invariant.power_small (omega arith) in
    powered-next s l.j l.term l.sum c.mul_units.result (omega arith) (omega arith) (omega arith) (rw c.mul_units.ensures product.0) (rw c.mul_units.ensures (le_of_lt product.1)) l.invariant

pub loop-j-preserved : goal.loop-j-preserved
loop-j-preserved c = more c

pub overflow_add-sum : goal.overflow_add-sum
overflow_add-sum c = let next = more c in omega (arith, next.sum-small)

pub returns : goal.returns
returns c =
    let l = c.loop-j in
    let all = powered-all c.args.s (l.j - 1) l.term l.sum (omega arith) (omega arith) l.invariant in record {
      exp_at_least = all.0;
      exp_at_most = all.1.0;
      lower_bound = all.1.1.0;
      value = all.1.1.1;
    }
