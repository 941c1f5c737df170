-- `settle::settle::states_of` meets its contract. Assumes nothing.
use mathlib.Core.Path.{ap, ◌∙◌}
use Rattle.settle.specs.Files.{states_by}
use Rattle.settle.proofs.Refusing.{ok_states}
use Rattle.settle.proofs.settle.states_of.Goals as goal

pub returns : goal.returns
returns c = c.ok.ensures.value ∙ ok_states c.number_of_states.result ∙ ap states_by c.number_of_states.ensures
