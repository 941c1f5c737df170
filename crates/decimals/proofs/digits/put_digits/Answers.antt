use Rattle.std.proofs.Common.{◌≡◌, ◌∙◌, sym, arith}
use Rattle.std.proofs.lemmas.List.{length-set}
use Rattle.decimals.proofs.Written.{digits-back, digits-done}
use Rattle.decimals.proofs.digits.put_digits.Goals as goal

pub loop-i-preserved : goal.loop-i-preserved
loop-i-preserved c =
    let a = c.args in
    let l = c.loop-i in
    (simp length-set l.invariant.0, rw c.digit.ensures (digits-back a.base l.left l.i l.out (omega arith) (omega arith) ∙ l.invariant.1))

pub returns : goal.returns
returns c =
    let l = c.loop-i in
    let done : l.i ≡ 0 = omega arith in
    sym (digits-done c.args.base l.left l.out) ∙ rw done at l.invariant.1
