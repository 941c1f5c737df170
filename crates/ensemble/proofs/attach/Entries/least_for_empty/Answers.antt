-- An empty place's left choice meets its contract. Assumes nothing.
use Rattle.std.proofs.Common.{rules}
use Rattle.doubles.specs.Least.{or_later}
use Rattle.ensemble.proofs.attach.Entries.least_for_empty.Goals as goal

pub returns-clause-chosen : goal.returns-clause-chosen
returns-clause-chosen c = λ key keys. c.least.ensures.chosen key (or_later key) (λ k r h p. search (rules, keys)) (λ kept next r p. search rules)
