-- The reply of a call on rings: how it is put together, what an admitted one says, and that it is the documents', the lowest number whose condition
-- holds, at its place. Assumes nothing.
use mathlib.Core.Path.{◌≡◌, refl}
use mathlib.Core.Bool.{not}
use mathlib.Core.List.{List, []}
use Prim.Native.Nat.{ℕ, ◌≤◌}
use native.Mathlib.Omega.{arith}
use lib.Dec.{eqb}
use lib.ListN.{length}
use borrow.Author.Tests.{eqb-true, ltb-false, le-ltb, not-false}
use Rattle.reply.specs.First.{Check, first_of, LowestGiven}
use Rattle.reply.proofs.First.{none-holds}
use Rattle.reply.proofs.Lowest.{lowest-given}
use Rattle.design.specs.Design.{Design, positions}
use Rattle.design.specs.Checks.{Admitted, design_checks, own_energy_checks}
use Rattle.design.specs.Places.{PlacesRight}
use Rattle.design.proofs.Sizes.{sized}
use Rattle.design.proofs.Replies.{passed}
use Rattle.design.proofs.Places.{Placeless, places-right}
use Rattle.design.proofs.Lowest.{energy-own}
use Rattle.std.specs.Prelude.{Ok}
use Rattle.ring.specs.Answers.{least_ring, own_ring_checks, ring_energy_checks, ring_search_checks}

-- ---- admitted

-- what a call that is admitted has: an admitted design that is a ring, and a place for each position
pub record Ring (d : Design) (s : List ℕ) : Type 0 where
  pub design : Admitted d
  pub ring : least_ring ≤ positions d
  pub places : length s ≡ positions d
  pub short : length s ≤ 128

module _ (d : Design) (s : List ℕ) (between : List Check) where
  pub ring-passed : first_of (design_checks (not (eqb (length s) (positions d))) d between (own_ring_checks d)) ≡ Ok tt → Ring d s
  ring-passed e =
      let p = passed (not (eqb (length s) (positions d))) d between (own_ring_checks d) e in
      let same : length s ≡ positions d = eqb-true _ _ (not-false _ p.size) in
      let short = (sized d p.design.sizes).short in
      record { design = p.design; ring = ltb-false _ _ (none-holds (own_ring_checks d) p.last).0; places = same; short = omega arith }

-- a ring is not refused for its size
pub ring-passes : (d : Design) → least_ring ≤ positions d → first_of (own_ring_checks d) ≡ Ok tt
ring-passes d h = rw (le-ltb (positions d) least_ring h) refl

-- ---- document 01's rule

module _ (d : Design) (s : List ℕ) where
  pub ring-energy-reply : LowestGiven (ring_energy_checks d s) (first_of (ring_energy_checks d s))
  ring-energy-reply = lowest-given (ring_energy_checks d s) tt

  pub ring-search-reply : LowestGiven (ring_search_checks d s) (first_of (ring_search_checks d s))
  ring-search-reply = lowest-given (ring_search_checks d s) tt

  ring-own : Placeless (own_ring_checks d)
  ring-own = (refl, (λ k. omega arith), (λ k. omega arith), (λ k. omega arith), tt)

  pub ring-energy-places : PlacesRight d (first_of (ring_energy_checks d s))
  ring-energy-places = places-right d (not (eqb (length s) (positions d))) (own_energy_checks d s) (own_ring_checks d) (energy-own d s) ring-own

  pub ring-search-places : PlacesRight d (first_of (ring_search_checks d s))
  ring-search-places = places-right d (not (eqb (length s) (positions d))) [] (own_ring_checks d) tt ring-own
