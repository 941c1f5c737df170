-- `replay::numbers::is_hex` meets its contract: the word is what `write_hex` writes. Assumes nothing.
use Rattle.std.proofs.Common.{◌∙◌}
use Rattle.replay.proofs.Words.{as-word}
use Rattle.replay.proofs.numbers.is_hex.Goals as goal

pub returns-in-Ok : goal.returns-in-Ok
returns-in-Ok c = λ e. as-word c.eq.ensures e ∙ c.in-Ok.ensures.front.1
