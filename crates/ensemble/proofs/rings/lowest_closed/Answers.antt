-- The choice at the last position of a ring meets its contract. Assumes nothing.
use Rattle.std.proofs.Common.{rules}
use Rattle.doubles.specs.Least.{or_earlier}
use Rattle.ensemble.proofs.rings.lowest_closed.Goals as goal

pub returns-clause-chosen : goal.returns-clause-chosen
returns-clause-chosen c = λ key keys. c.least.ensures.chosen key (or_earlier key) (λ k r h p. search (rules, keys)) (λ kept next r p. search rules)
