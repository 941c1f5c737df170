-- The checks of a call on a ceiling are sorted by number, so its reply is the documents': the lowest number whose condition holds, at its place. Assumes
-- nothing.
use mathlib.Core.Path.{refl}
use mathlib.Core.Bool.{not}
use mathlib.Core.List.{List, [], ◌∷◌}
use Prim.Native.Nat.{ℕ}
use native.Mathlib.Omega.{arith}
use lib.Dec.{eqb}
use lib.ListN.{length}
use lib.Ieee.{Float}
use Rattle.reply.specs.First.{◌if◌, first_of, LowestGiven}
use Rattle.reply.specs.declared.Refusal.TheVariants.{NoneUnder}
use Rattle.reply.proofs.Lowest.{lowest-given}
use Rattle.design.specs.Design.{Design, positions, model_of}
use Rattle.design.specs.Checks.{own_count_checks}
use Rattle.design.specs.Places.{PlacesBeside}
use Rattle.design.proofs.Beside.{places-beside}
use Rattle.design.proofs.Lowest.{count-own}
use Rattle.ceiling.specs.Ceiling.{none_under, finite}
use Rattle.ceiling.specs.Answers.{ceiling_checks}

module _ (d : Design) (ceiling : Float) (entries : List ℕ) where
  pub ceiling-lowest : LowestGiven (ceiling_checks d ceiling entries) (first_of (ceiling_checks d ceiling entries))
  ceiling-lowest = lowest-given (ceiling_checks d ceiling entries) tt

  -- a ceiling that is not finite has no place
  pub ceiling-places : PlacesBeside d (not (finite ceiling)) (first_of (ceiling_checks d ceiling entries))
  ceiling-places =
      places-beside d (not (eqb (length entries) (positions d))) (not (finite ceiling)) (own_count_checks d) (NoneUnder if none_under (model_of d) ceiling ∷ []) (count-own d)
      (refl, (λ k. omega arith), (λ k. omega arith), (λ k. omega arith), tt)
