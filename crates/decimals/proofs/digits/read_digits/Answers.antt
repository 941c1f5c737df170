use mathlib.Core.Path.{◌≡◌, sym, ◌∙◌}
use Prim.Native.Nat.{◌+◌, ◌*◌}
use native.Mathlib.Nat.{le_trans, le_of_eq, min-eq_left, min-eq_right}
use native.Mathlib.Omega.{arith}
use lib.ListN.{get_or, drop, drop_of_length-le}
use Rattle.decimals.specs.Digits.{digit_value, numeral}
use Rattle.decimals.proofs.Worth.{numeral-more, numeral-none, numeral-grows, above-limit, within-limit}
use Rattle.decimals.proofs.digits.read_digits.Goals as goal

pub returns-then-limit-digit : goal.returns-then-limit-digit
returns-then-limit-digit c =
    let a = c.args in
    let l = c.loop-b in
    let d = c.digit_value-digit in
    let next = numeral-more a.base l.n a.digits.now l.b-index (omega arith) in
    let over = above-limit a.limit l.n a.base d.result c.requires.0 d.ensures.1 c.requires.1 c.if-limit-digit.true in
    let grows = numeral-grows a.base (l.n * a.base + digit_value (get_or a.digits.now l.b-index 0)) (drop (l.b-index + 1) a.digits.now) c.requires.0 in
    let same = d.ensures.0 in
    sym (min-eq_left (omega (arith, next, l.invariant.1)))

pub overflow_mul-n : goal.overflow_mul-n
overflow_mul-n c =
    let a = c.args in
    let l = c.loop-b in
    let fits = within-limit a.limit l.n a.base c.digit_value-digit.result c.requires.0 c.digit_value-digit.ensures.1 c.requires.1 c.if-limit-digit.false in
    omega arith

pub overflow_add-n : goal.overflow_add-n
overflow_add-n c =
    let a = c.args in
    let l = c.loop-b in
    let fits = within-limit a.limit l.n a.base c.digit_value-digit.result c.requires.0 c.digit_value-digit.ensures.1 c.requires.1 c.if-limit-digit.false in
    omega arith

pub loop-b-preserved : goal.loop-b-preserved
loop-b-preserved c =
    let a = c.args in
    let l = c.loop-b in
    let d = c.digit_value-digit in
    let fits = within-limit a.limit l.n a.base c.digit_value-digit.result c.requires.0 c.digit_value-digit.ensures.1 c.requires.1 c.if-limit-digit.false in
    (fits, rw d.ensures.0 (sym (numeral-more a.base l.n a.digits.now l.b-index (omega arith)) ∙ l.invariant.1))

pub returns : goal.returns
returns c =
    let a = c.args in
    let l = c.loop-b in
    let past = drop_of_length-le a.digits.now c.loop-b-test.false in
    let whole : l.n ≡ numeral a.base a.start a.digits.now = sym (numeral-none a.base l.n) ∙ rw past at l.invariant.1 in
    whole ∙ sym (min-eq_right (le_trans (le_of_eq (sym whole)) l.invariant.0))
