-- The state sum meets its contract. The invariant: the terms of the places left, added to the sum, give the whole. Assumes nothing.
use mathlib.Core.Path.{◌≡◌}
use lib.ListN.{drop}
use Rattle.doubles.specs.Decimal.{zero}
use Rattle.doubles.specs.Sum.{sum_from}
use Rattle.model.specs.Model.{Model}
use Rattle.model.specs.Energy.{state_terms}
use Rattle.ensemble.specs.Layout.{PlaceTerms}
use Rattle.ensemble.proofs.energies.Places.state_sum.Given as goal

abbrev pub invariant-loop-id : goal.invariant-loop-id
invariant-loop-id l =
    (m : Model) → PlaceTerms m l.self.configuration.now l.self.terms.now → sum_from zero (state_terms m 0 l.self.configuration.now) ≡ sum_from l.sum (state_terms m l.id (drop l.id l.self.configuration.now))
