-- The checks of the sums of energies are sorted by number, so their replies are the documents': the lowest number whose condition holds, at its place.
-- Assumes nothing.
use mathlib.Core.Bool.{Bool}
use mathlib.Core.List.{[]}
use mathlib.Core.Path.{refl}
use native.Mathlib.Omega.{arith}
use Rattle.reply.specs.First.{first_of, LowestGiven}
use Rattle.reply.proofs.Lowest.{lowest-given}
use Rattle.design.specs.Design.{Design}
use Rattle.design.specs.Places.{PlacesRight}
use Rattle.design.proofs.Places.{places-right}
use Rattle.probabilities.specs.Answers.{bare_checks, energy_checks}

module _ (own_size : Bool) (d : Design) where
  pub energy-reply : LowestGiven (energy_checks own_size d) (first_of (energy_checks own_size d))
  energy-reply = lowest-given (energy_checks own_size d) tt

  pub energy-places : PlacesRight d (first_of (energy_checks own_size d))
  energy-places = places-right d own_size [] (bare_checks d) tt (refl, (λ k. omega arith), (λ k. omega arith), (λ k. omega arith), tt)
