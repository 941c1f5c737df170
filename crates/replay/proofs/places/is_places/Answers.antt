-- `replay::places::is_places` meets its contract. Assumes nothing.
use Rattle.std.proofs.Common.{sym, ◌∙◌}
use Rattle.replay.proofs.places.is_places.Goals as goal

pub returns : goal.returns
returns c = λ e. sym c.letters.ensures ∙ c.are_letters.ensures e
