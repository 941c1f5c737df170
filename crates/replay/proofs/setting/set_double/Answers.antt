-- `replay::setting::set_double` meets its contract. Assumes nothing.
use Rattle.std.proofs.Common.{sym, ◌∙◌}
use Rattle.replay.proofs.Values.{on-some}
use Rattle.replay.proofs.setting.set_double.Goals as goal

pub returns : goal.returns
returns c =
    let words = c.split_at_first.ensures in
    on-some c.set.result c.set.ensures (λ e. record { bits = c.in_ok-bits.bits; second = sym words.after ∙ c.in_ok-bits.ensures; set = rw (words.before, c.double.ensures) at e })
