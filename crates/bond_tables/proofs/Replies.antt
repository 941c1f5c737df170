-- Each call's checks are sorted by number, so its reply is the documents': the lowest number whose condition holds, at its place. Assumes nothing.
use mathlib.Core.Bool.{Bool, false, not, ◌||◌}
use mathlib.Core.List.{List, []}
use Prim.Native.Nat.{ℕ}
use lib.Dec.{eqb}
use lib.ListN.{length}
use lib.Ieee.{Float}
use Rattle.reply.specs.First.{Check, first_of, LowestGiven}
use Rattle.reply.proofs.Lowest.{lowest-given}
use Rattle.design.specs.Design.{Design, positions}
use Rattle.design.specs.Checks.{own_count_checks, own_rank_checks, own_energy_checks}
use Rattle.design.specs.Places.{PlacesRight, PlacesBeside}
use Rattle.design.proofs.Places.{Placeless, places-right}
use Rattle.design.proofs.Beside.{places-beside}
use Rattle.design.proofs.Lowest.{count-own, rank-own, energy-own}
use Rattle.bond_tables.specs.Tables.{wrong_tables, bonds_out}
use Rattle.bond_tables.specs.Answers.{over_checks, fill_checks, energy_over_checks, count_over_checks, rank_over_checks, search_over_checks}

module _ (d : Design) (t u : List Float) where
  pub fill-lowest : LowestGiven (fill_checks d t u) (first_of (fill_checks d t u))
  fill-lowest = lowest-given (fill_checks d t u) tt

  pub energy-over-lowest : (s : List ℕ) → LowestGiven (energy_over_checks d t u s) (first_of (energy_over_checks d t u s))
  energy-over-lowest s = lowest-given (energy_over_checks d t u s) tt

  pub count-over-lowest : LowestGiven (count_over_checks d t u) (first_of (count_over_checks d t u))
  count-over-lowest = lowest-given (count_over_checks d t u) tt

  pub rank-over-lowest : (rank : ℕ) (entries : List ℕ) → LowestGiven (rank_over_checks d t u rank entries) (first_of (rank_over_checks d t u rank entries))
  rank-over-lowest rank entries = lowest-given (rank_over_checks d t u rank entries) tt

  pub search-over-lowest : (entries : List ℕ) → LowestGiven (search_over_checks d t u entries) (first_of (search_over_checks d t u entries))
  search-over-lowest entries = lowest-given (search_over_checks d t u entries) tt

  -- ---- and the place of each

  pub fill-places : PlacesRight d (first_of (fill_checks d t u))
  fill-places = places-right d (wrong_tables d t u) [] [] tt tt

  over-places : (own_size : Bool) (own : List Check) → Placeless own → PlacesBeside d (bonds_out t u) (first_of (over_checks own_size d t u own))
  over-places own_size own w = places-beside d (own_size || wrong_tables d t u) (bonds_out t u) own [] w tt

  pub energy-over-places : (s : List ℕ) → PlacesBeside d (bonds_out t u) (first_of (energy_over_checks d t u s))
  energy-over-places s = over-places (not (eqb (length s) (positions d))) (own_energy_checks d s) (energy-own d s)

  pub count-over-places : PlacesBeside d (bonds_out t u) (first_of (count_over_checks d t u))
  count-over-places = over-places false (own_count_checks d) (count-own d)

  pub rank-over-places : (rank : ℕ) (entries : List ℕ) → PlacesBeside d (bonds_out t u) (first_of (rank_over_checks d t u rank entries))
  rank-over-places rank entries = over-places (not (eqb (length entries) (positions d))) (own_rank_checks d rank) (rank-own d rank)

  pub search-over-places : (entries : List ℕ) → PlacesBeside d (bonds_out t u) (first_of (search_over_checks d t u entries))
  search-over-places entries = over-places (not (eqb (length entries) (positions d))) [] tt
