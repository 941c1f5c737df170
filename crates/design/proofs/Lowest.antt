-- Each call's checks are sorted by number, so its reply is the documents': the lowest number whose condition holds, at its place. Assumes nothing.
use mathlib.Core.Path.{refl}
use mathlib.Core.Bool.{false, not, ◌||◌}
use mathlib.Core.List.{List, []}
use Prim.Native.Nat.{ℕ}
use native.Mathlib.Omega.{arith}
use lib.Dec.{eqb}
use lib.ListN.{length}
use Rattle.reply.specs.First.{first_of, LowestGiven}
use Rattle.reply.proofs.Lowest.{lowest-given}
use Rattle.design.specs.Design.{Design, positions}
use Rattle.design.specs.Checks.{no_strand, no_position, strand_bond_checks, scaffold_bond_checks, friends_checks, own_count_checks, count_checks, own_rank_checks, rank_checks, own_energy_checks, energy_checks}
use Rattle.design.specs.Places.{PlacesRight}
use Rattle.design.proofs.Places.{Placeless, places-right}

module _ (d : Design) where
  pub strand-bond-lowest : (x y : ℕ) → LowestGiven (strand_bond_checks d x y) (first_of (strand_bond_checks d x y))
  strand-bond-lowest x y = lowest-given (strand_bond_checks d x y) tt

  pub scaffold-bond-lowest : (i strand : ℕ) → LowestGiven (scaffold_bond_checks d i strand) (first_of (scaffold_bond_checks d i strand))
  scaffold-bond-lowest i strand = lowest-given (scaffold_bond_checks d i strand) tt

  pub friends-lowest : (i : ℕ) (entries : List ℕ) → LowestGiven (friends_checks d i entries) (first_of (friends_checks d i entries))
  friends-lowest i entries = lowest-given (friends_checks d i entries) tt

  pub count-lowest : LowestGiven (count_checks d) (first_of (count_checks d))
  count-lowest = lowest-given (count_checks d) tt

  pub rank-lowest : (rank : ℕ) (entries : List ℕ) → LowestGiven (rank_checks d rank entries) (first_of (rank_checks d rank entries))
  rank-lowest rank entries = lowest-given (rank_checks d rank entries) tt

  pub energy-lowest : (s : List ℕ) → LowestGiven (energy_checks d s) (first_of (energy_checks d s))
  energy-lowest s = lowest-given (energy_checks d s) tt

  -- ---- and the place of each

  pub strand-bond-places : (x y : ℕ) → PlacesRight d (first_of (strand_bond_checks d x y))
  strand-bond-places x y = places-right d (no_strand d x || no_strand d y) [] [] tt tt

  pub scaffold-bond-places : (i strand : ℕ) → PlacesRight d (first_of (scaffold_bond_checks d i strand))
  scaffold-bond-places i strand = places-right d (no_position d i || no_strand d strand) [] [] tt tt

  pub friends-places : (i : ℕ) (entries : List ℕ) → PlacesRight d (first_of (friends_checks d i entries))
  friends-places i entries = places-right d (no_position d i || not (eqb (length entries) 64)) [] [] tt tt

  pub count-own : Placeless (own_count_checks d)
  count-own = (refl, (λ k. omega arith), (λ k. omega arith), (λ k. omega arith), tt)

  pub count-places : PlacesRight d (first_of (count_checks d))
  count-places = places-right d false (own_count_checks d) [] count-own tt

  pub rank-own : (rank : ℕ) → Placeless (own_rank_checks d rank)
  rank-own rank = (refl, (λ k. omega arith), (λ k. omega arith), (λ k. omega arith), (refl, (λ k. omega arith), (λ k. omega arith), (λ k. omega arith), tt))

  pub rank-places : (rank : ℕ) (entries : List ℕ) → PlacesRight d (first_of (rank_checks d rank entries))
  rank-places rank entries = places-right d (not (eqb (length entries) (positions d))) (own_rank_checks d rank) [] (rank-own rank) tt

  pub energy-own : (s : List ℕ) → Placeless (own_energy_checks d s)
  energy-own s = (refl, (λ k. omega arith), (λ k. omega arith), (λ k. omega arith), tt)

  pub energy-places : (s : List ℕ) → PlacesRight d (first_of (energy_checks d s))
  energy-places s = places-right d (not (eqb (length s) (positions d))) (own_energy_checks d s) [] (energy-own s) tt
