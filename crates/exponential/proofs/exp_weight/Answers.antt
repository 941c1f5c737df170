-- The exponential of a double within the ends meets its contract. Assumes nothing.
use Rattle.exponential.proofs.Cut.{inside}
use Rattle.exponential.proofs.Finish.{zero_is, finish-plus, finish-minus, finish-whole}
use Rattle.exponential.proofs.exp_weight.Goals as goal

pub returns-then-digits : goal.returns-then-digits
returns-then-digits c =
    let up = c.exp_up-raised in
    finish-whole c.args.x c.size_units.result up.result.digits up.result.power (inside c.args.x c.requires).0 c.size_units.ensures up.ensures (rw zero_is at c.if-x.true) c.if-digits.true

pub returns-then-x : goal.returns-then-x
returns-then-x c =
    let up = c.exp_up-raised in
    finish-minus c.args.x c.size_units.result up.result.digits up.result.power (inside c.args.x c.requires).0 c.size_units.ensures up.ensures (rw zero_is at c.if-x.true) c.if-digits.false

pub returns : goal.returns
returns c =
    let up = c.exp_up-raised in
    finish-plus c.args.x c.size_units.result up.result.digits up.result.power (inside c.args.x c.requires).0 c.size_units.ensures up.ensures (rw zero_is at c.if-x.false)
