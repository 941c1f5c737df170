-- The chain sum meets its contract. The invariant: the terms of the places left, added to the sum, give the whole. Assumes nothing.
use mathlib.Core.Path.{◌≡◌}
use lib.ListN.{drop}
use Rattle.doubles.specs.Sum.{sum_from}
use Rattle.model.specs.Model.{Model}
use Rattle.model.specs.Energy.{left_of, chain_terms, chain_energy}
use Rattle.ensemble.specs.Layout.{PlaceTerms}
use Rattle.ensemble.proofs.energies.Places.chain_sum.Given as goal

abbrev pub invariant-loop-position : goal.invariant-loop-position
invariant-loop-position l =
    (m : Model) → PlaceTerms m l.self.configuration.now l.self.terms.now → chain_energy m l.self.configuration.now ≡ sum_from l.sum (chain_terms m l.position (left_of l.self.configuration.now l.position) (drop l.position l.self.configuration.now))
