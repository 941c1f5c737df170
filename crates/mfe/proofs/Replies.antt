-- The search's checks are sorted by number, so its reply is the documents': the lowest number whose condition holds, at its place. Assumes nothing.
use mathlib.Core.Bool.{not}
use mathlib.Core.List.{List, []}
use Prim.Native.Nat.{ℕ}
use lib.Dec.{eqb}
use lib.ListN.{length}
use Rattle.reply.specs.First.{first_of, LowestGiven}
use Rattle.reply.proofs.Lowest.{lowest-given}
use Rattle.design.specs.Design.{Design, positions}
use Rattle.design.specs.Places.{PlacesRight}
use Rattle.design.proofs.Places.{places-right}
use Rattle.mfe.specs.Answers.{search_checks}

module _ (d : Design) (entries : List ℕ) where
  pub search-reply : LowestGiven (search_checks d entries) (first_of (search_checks d entries))
  search-reply = lowest-given (search_checks d entries) tt

  pub search-places : PlacesRight d (first_of (search_checks d entries))
  search-places = places-right d (not (eqb (length entries) (positions d))) [] [] tt tt
