-- `replay::setting::set_number` meets its contract. Assumes nothing.
use Rattle.replay.proofs.Words.{as-decimal}
use Rattle.replay.proofs.Values.{on-some}
use Rattle.replay.proofs.setting.set_number.Goals as goal

pub returns : goal.returns
returns c =
    let words = c.split_at_first.ensures in
    on-some c.set.result c.set.ensures (λ e. record { value = c.in_ok-value.value; second = as-decimal words.after c.in_ok-value.ensures; set = rw words.before at e })
