-- Cells and scaffold numbers as the code finds them are those of the definitions. Assumes nothing.
use mathlib.Core.Path.{◌≡◌, refl, ap, ap₂, sym, ◌∙◌}
use mathlib.Core.Bool.{Bool, true, false, cond}
use mathlib.Core.List.{List, map}
use mathlib.Core.Option.{none, some}
use Prim.Native.Nat.{ℕ, ◌+◌, ◌*◌, ◌-◌, ◌/◌, ◌%◌, ◌<◌, ◌≤◌}
use native.Mathlib.Omega.{arith}
use lib.Dec.{eqb}
use Rattle.std.specs.Prelude.{position}
use lib.ListN.{length, get_or}
use borrow.Author.Tests.{ne_eqb, eqb-true, eqb-false, ltb-false}
use Rattle.lists.specs.Find.{any, first_index}
use Rattle.lists.specs.Build.{tabulate, up_to}
use Rattle.lists.proofs.Build.{length-tabulate, get_or-tabulate}
use Rattle.lists.proofs.Counted.{map-tabulate, tabulate-same, any-fails}
use Rattle.sdc_common.specs.Names.{Name, base_of, stars_of, same_name}
use Rattle.sdc_common.specs.Lent.{Glue, part_of, names_of, glue_of, glues_of}
use Rattle.sdc_common.specs.declared.names.LentName.{LentName}
use Rattle.sdc_common.specs.Numbers.{is_known, number_at, base_number, name_number, glue_number, bases_of, numbers_among}
use Rattle.sdc_common.specs.Spelled.{is_unknown, spelled_number}
use Rattle.sdc_common.specs.Calls.{too_many_bases}
use Rattle.sdc_common.proofs.Fit.{glue_at, glues-listed}
use Rattle.sdc_common.proofs.Spelled.{bases-bare}
use Rattle.sdc_common.proofs.Positions.{position_same}
use Rattle.sdc_common.proofs.Looked.{unknown-spelled, spelled-number, number-at-most, glue-at-most}
use Rattle.sdc1d_params.specs.Entries.{cell, cell_of}
use Rattle.sdc1d_params.specs.inner.Cells.{base_at, one_cell, first_of}
use Rattle.sdc1d_params.specs.declared.Entry.{Entry}
use Rattle.sdc1d_params.specs.inner.Scaffold.{unknown_by, unknown_at}

-- ---- numbers of lent names, one by one

-- by the bases of a table that holds those of the strands
pub numbers-among : (strands glues : List Glue) (bases : List Name) (numbers : List ℕ) → bases ≡ bases_of strands → numbers ≡ map (glue_number bases) glues → numbers ≡ numbers_among strands glues
unfolding numbers_among
numbers-among strands glues bases numbers b e = e ∙ ap (λ (bs : List Name). map (glue_number bs) glues) b

module _ (strands : List Glue) (text rows numbers : List ℕ) (e : numbers ≡ numbers_among strands (glues_of text (names_of rows))) where
  listed : numbers ≡ tabulate (length rows / 3) (λ k. glue_number (bases_of strands) (glue_at text rows k))
  unfolding numbers_among
  listed = e ∙ ap (map (glue_number (bases_of strands))) (glues-listed text rows) ∙ map-tabulate (glue_number (bases_of strands)) (length rows / 3) (glue_at text rows)

  pub numbers-length : length numbers ≡ length rows / 3
  numbers-length = ap length listed ∙ length-tabulate (length rows / 3) (λ k. glue_number (bases_of strands) (glue_at text rows k))

  pub number-at : (k : ℕ) → k < length rows / 3 → get_or numbers k 0 ≡ glue_number (bases_of strands) (glue_at text rows k)
  number-at k h = ap (λ (xs : List ℕ). get_or xs k 0) listed ∙ get_or-tabulate (length rows / 3) (λ j. glue_number (bases_of strands) (glue_at text rows j)) 0 k h

  pub number_small : too_many_bases strands ≡ false → (k : ℕ) → k < length rows / 3 → get_or numbers k 0 < 64
  number_small few k h =
      let most : length (bases_of strands) ≤ 31 = ltb-false 31 (length (bases_of strands)) few in
      let at : get_or numbers k 0 ≡ glue_number (bases_of strands) (glue_at text rows k) = number-at k h in
      omega (arith, glue-at-most (bases_of strands) (glue_at text rows k))

  -- ---- names as spelled

  unknown-is : (bases : List Name) (glue : Glue) → bases ≡ bases_of strands → unknown_by (glue_number bases glue) glue ≡ is_unknown bases glue
  unfolding unknown_by is_unknown glue_number
  unknown-is bases none b = refl
  unknown-is bases (some name) b = rw b (unknown-spelled (bases_of strands) (bases-bare strands) name)

  -- the first that is unknown, by the number of its reduced name
  pub unknown-placed : position (unknown_at text rows numbers) (up_to (length rows / 3)) ≡ position (is_unknown (bases_of strands)) (glues_of text (names_of rows))
  unknown-placed =
      position_same (unknown_at text rows numbers) (is_unknown (bases_of strands)) (length rows / 3) (λ k. k) (glue_at text rows)
      (λ k h. ap (λ (n : ℕ). unknown_by n (glue_at text rows k)) (number-at k h) ∙ unknown-is (bases_of strands) (glue_at text rows k) refl)
      ∙ ap (position (is_unknown (bases_of strands))) (sym (glues-listed text rows))

  -- where none is unknown, the numbers are those of the names as spelled
  pub numbers-spelled : any (is_unknown (bases_of strands)) (glues_of text (names_of rows)) ≡ false → numbers ≡ map (spelled_number (bases_of strands)) (glues_of text (names_of rows))
  numbers-spelled known =
      listed
      ∙ tabulate-same (length rows / 3) (λ k. glue_number (bases_of strands) (glue_at text rows k)) (λ k. spelled_number (bases_of strands) (glue_at text rows k))
      (λ k h. sym (spelled-number (bases_of strands) (bases-bare strands) (glue_at text rows k) (any-fails (is_unknown (bases_of strands)) (length rows / 3) (glue_at text rows) (ap (any (is_unknown (bases_of strands))) (sym (glues-listed text rows)) ∙ known) k h)))
      ∙ sym (ap (map (spelled_number (bases_of strands))) (glues-listed text rows) ∙ map-tabulate (spelled_number (bases_of strands)) (length rows / 3) (glue_at text rows))

-- ---- the cell of an entry

parity : (even : Bool) (n place stars : ℕ) → eqb (n % 2) 0 ≡ even → n ≡ number_at place stars → cond even (n - 1) n ≡ 1 + 2 * place
parity true n place stars e h = omega (arith, eqb-true (n % 2) 0 e)
parity false n place stars e h = let odd : n % 2 ≡ 0 → ⊥ = eqb-false (n % 2) 0 e in omega arith

one_known : (n place stars : ℕ) → n ≡ number_at place stars → cond (eqb n 0) (cell 0 0) (cell (base_at n) (base_at n + 1)) ≡ cell (number_at place 0) (number_at place 1)
one_known n place stars h =
    let base : base_at n ≡ 1 + 2 * place = parity (eqb (n % 2) 0) n place stars refl h in
    let none : eqb n 0 ≡ false = ne_eqb n 0 (λ (z : n ≡ 0). omega arith) in
    let first : base_at n ≡ number_at place 0 = omega arith in
    let second : base_at n + 1 ≡ number_at place 1 = omega arith in
    rw none (ap₂ cell first second)

-- one name: base and base*
alone : (bases : List Name) (base : Name) (stars n : ℕ) → n ≡ base_number bases base stars → one_cell n ≡ cell (base_number bases base 0) (base_number bases base 1)
unfolding base_number
alone bases base stars n e = go (is_known bases base) e
  where
    go : (t : Bool) → n ≡ cond t (number_at (first_index (same_name base) bases) stars) 0 → one_cell n ≡ cell (cond t (number_at (first_index (same_name base) bases) 0) 0) (cond t (number_at (first_index (same_name base) bases) 1) 0)
    go true h = one_known n (first_index (same_name base) bases) stars h
    go false h = rw h

module _ (bases : List Name) (first : Name) (n : ℕ) (e : n ≡ name_number bases first) where
  pub one-found : one_cell n ≡ cell_of bases first none
  unfolding cell_of
  one-found = alone bases (base_of first) (stars_of first) n e

  pub pair-found : (second : Name) (m : ℕ) → m ≡ glue_number bases (some second) → cell n m ≡ cell_of bases first (some second)
  unfolding cell_of glue_number
  pair-found second m f = ap₂ cell e f

-- the number of an entry's first name, which is always there
first-number : (bases : List Name) (text : List ℕ) (e : Entry) → glue_number bases (glue_of text (first_of e)) ≡ name_number bases (part_of text e.first.start e.first.size)
unfolding glue_of glue_number
first-number bases text e = refl

-- as the code works it out
pub first-numbered :
    (bases : List Name) (text : List ℕ) (e : Entry) {name : LentName} {spelled : Glue} {n : ℕ}
    → name ≡ first_of e → spelled ≡ glue_of text name → n ≡ glue_number bases spelled → n ≡ name_number bases (part_of text e.first.start e.first.size)
first-numbered bases text e m s n = n ∙ ap (glue_number bases) (s ∙ ap (glue_of text) m) ∙ first-number bases text e

-- no cell is beyond two for each base
pub cell-inside : (bases : List Name) (first : Name) (second : Glue) → length bases ≤ 31 → ((cell_of bases first second).row < 64) × ((cell_of bases first second).column < 64)
unfolding cell_of
cell-inside bases first none h = (omega (arith, number-at-most bases (base_of first) 0), omega (arith, number-at-most bases (base_of first) 1))
cell-inside bases first (some second) h = (omega (arith, number-at-most bases (base_of first) (stars_of first)), omega (arith, number-at-most bases (base_of second) (stars_of second)))
