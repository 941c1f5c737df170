-- The checks of the sums are sorted by number, so their replies are the documents': the lowest number whose condition holds, at its place. Assumes
-- nothing.
use mathlib.Core.Bool.{◌||◌}
use mathlib.Core.List.{[]}
use mathlib.Core.Path.{refl}
use native.Mathlib.Omega.{arith}
use Rattle.reply.specs.First.{first_of, LowestGiven}
use Rattle.reply.proofs.Lowest.{lowest-given}
use Rattle.design.specs.Design.{Design, positions}
use Rattle.design.specs.Places.{PlacesRight}
use Rattle.design.proofs.Places.{places-right}
use Rattle.partition.specs.Weights.{Weights}
use Rattle.state_sums.specs.Sizes.{Lists, wrong_cells, wrong_lists}
use Rattle.state_sums.specs.Answers.{own_sum_checks, free_checks, constrained_checks}

module _ (d : Design) (w : Weights) where
  pub free-reply : LowestGiven (free_checks d w) (first_of (free_checks d w))
  free-reply = lowest-given (free_checks d w) tt

  pub free-places : PlacesRight d (first_of (free_checks d w))
  free-places = places-right d (wrong_cells (positions d) w) [] (own_sum_checks d w) tt ((refl, (λ k. omega arith), (λ k. omega arith), (λ k. omega arith), (refl, (λ k. omega arith), (λ k. omega arith), (λ k. omega arith), tt)))

  module _ (l : Lists) where
    pub constrained-reply : LowestGiven (constrained_checks d w l) (first_of (constrained_checks d w l))
    constrained-reply = lowest-given (constrained_checks d w l) tt

    pub constrained-places : PlacesRight d (first_of (constrained_checks d w l))
    constrained-places = places-right d (wrong_cells (positions d) w || wrong_lists (positions d) l) [] (own_sum_checks d w) tt ((refl, (λ k. omega arith), (λ k. omega arith), (λ k. omega arith), (refl, (λ k. omega arith), (λ k. omega arith), (λ k. omega arith), tt)))
