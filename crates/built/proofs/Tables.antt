-- A cell and its mirror set in a table, and what is kept: what no cell passes, row and column 0, symmetry. Assumes nothing.
use mathlib.Core.Path.{◌≡◌, refl, ap, sym, ◌∙◌}
use mathlib.Core.Bool.{Bool, true, false, cond, not}
use mathlib.Core.List.{List}
use Prim.Native.Nat.{ℕ, ◌+◌, ◌*◌, ◌<◌}
use native.Mathlib.Decide.{ℕ_discrete}
use native.Mathlib.Omega.{arith}
use lib.Dec.{eqb}
use lib.ListN.{length, get_or, set, length-set}
use lib.Seq.{get_or-set_same, get_or-set_other}
use lib.Ieee.{Float}
use borrow.Author.Tests.{eqb-false, eq-eqb, ne_eqb}
use Rattle.doubles.specs.Decimal.{zero}
use Rattle.lists.specs.Find.{any}
use Rattle.lists.proofs.Tests.{clash, both}
use Rattle.lists.proofs.Places.{any-set}
use Rattle.sdc1d_params.specs.Entries.{Cell, is_written}
use Rattle.sdc1d_params.specs.Tables.{place_of, set_both}
use Rattle.design.specs.Design as Design
use Rattle.built.specs.Fits.{Symmetric}
use Rattle.built.proofs.Numbers.{Small}

nonzero : (n : ℕ) → not (eqb n 0) ≡ true → 0 < n
nonzero n e = go (eqb n 0) refl e
  where
    go : (t : Bool) → eqb n 0 ≡ t → not t ≡ true → 0 < n
    go true p q = absurd (clash refl q)
    go false p q = let far = eqb-false n 0 p in omega arith

-- a cell that is written has a row and a column from 1
pub record Written (c : Cell) : Type 0 where
  pub row : 0 < c.row
  pub column : 0 < c.column

pub written : (c : Cell) → is_written c ≡ true → Written c
written c e = let halves = both (not (eqb c.row 0)) (not (eqb c.column 0)) e in record { row = nonzero c.row halves.0; column = nonzero c.column halves.1 }

-- ---- a table after a cell and its mirror are set

-- the places of the two
abbrev pub there : Cell → ℕ
there c = place_of c.row c.column

abbrev pub back : Cell → ℕ
back c = place_of c.column c.row

abbrev pub twice : Cell → Float → List Float → List Float
twice c v table = set (set table (there c) v) (back c) v

module _ (c : Cell) (v : Float) (table : List Float) where
  -- what is set, or the table as it was where a name is not known
  pub set_cases : (P : List Float → Type 0) → (is_written c ≡ true → P (twice c v table)) → P table → P (set_both c v table)
  unfolding set_both
  set_cases P done kept = go (is_written c) refl
    where
      go : (t : Bool) → is_written c ≡ t → P (cond t (twice c v table) table)
      go true e = done e
      go false e = kept

  -- no cell passes a test that neither the table's cells nor a value that is written pass
  pub set-none : (p : Float → Bool) → any p table ≡ false → (is_written c ≡ true → p v ≡ false) → any p (set_both c v table) ≡ false
  set-none p e h =
      set_cases (λ (t : List Float). any p t ≡ false)
      (λ w. any-set p (set table (there c) v) (back c) v (any-set p table (there c) v e (h w)) (h w))
      e

  module _ (small : Small c) where
    -- a place in row or column 0 keeps its cell
    pub set-null-row : (g : ℕ) → g < 64 → Design.cell (set_both c v table) 0 g ≡ Design.cell table 0 g
    set-null-row g h =
        set_cases (λ (t : List Float). Design.cell t 0 g ≡ Design.cell table 0 g)
        (λ w. let wr = written c w in
        get_or-set_other (set table (there c) v) (back c) (0 * 64 + g) v zero (λ same. omega arith)
        ∙ get_or-set_other table (there c) (0 * 64 + g) v zero (λ same. omega arith))
        refl

    pub set-null-column : (g : ℕ) → g < 64 → Design.cell (set_both c v table) g 0 ≡ Design.cell table g 0
    set-null-column g h =
        set_cases (λ (t : List Float). Design.cell t g 0 ≡ Design.cell table g 0)
        (λ w. let wr = written c w in
        get_or-set_other (set table (there c) v) (back c) (g * 64 + 0) v zero (λ same. omega arith)
        ∙ get_or-set_other table (there c) (g * 64 + 0) v zero (λ same. omega arith))
        refl

-- ---- symmetry

-- what stands at a place after one is set
set-at-place : (table : List Float) (i k : ℕ) (v : Float) → i < length table → get_or (set table i v) k zero ≡ cond (eqb k i) v (get_or table k zero)
set-at-place table i k v h = go (ℕ_discrete k i)
  where
    go : Dec (k ≡ i) → get_or (set table i v) k zero ≡ cond (eqb k i) v (get_or table k zero)
    go (yes e) = rw (eq-eqb k i e) (rw e (get_or-set_same table i v zero h))
    go (no e) = rw (ne_eqb k i e) (get_or-set_other table i k v zero e)

-- a place is the one of a cell exactly if the mirror place is the one of the mirror cell
place-turned : (i j row column : ℕ) → i < 64 → j < 64 → row < 64 → column < 64 → eqb (i * 64 + j) (row * 64 + column) ≡ eqb (j * 64 + i) (column * 64 + row)
place-turned i j row column a b c d = go (ℕ_discrete (i * 64 + j) (row * 64 + column))
  where
    go : Dec (i * 64 + j ≡ row * 64 + column) → eqb (i * 64 + j) (row * 64 + column) ≡ eqb (j * 64 + i) (column * 64 + row)
    go (yes e) = eq-eqb _ _ e ∙ sym (eq-eqb (j * 64 + i) (column * 64 + row) (omega arith))
    go (no e) = ne_eqb _ _ e ∙ sym (ne_eqb (j * 64 + i) (column * 64 + row) (λ same. e (omega arith)))

-- one of two, whichever is asked first
either_way : (a b : Bool) (v x : Float) → cond a v (cond b v x) ≡ cond b v (cond a v x)
either_way true true v x = refl
either_way true false v x = refl
either_way false b v x = refl

-- a table of 64 rows of 64 that is symmetric
pub record Mirrored (table : List Float) : Type 0 where
  pub many : length table ≡ 4096
  pub same : Symmetric table

-- a write keeps a table's length
set-length : (c : Cell) (v : Float) (table : List Float) → length (set_both c v table) ≡ length table
unfolding set_both
set-length c v table = go (is_written c)
  where
    go : (t : Bool) → length (cond t (set (set table (place_of c.row c.column) v) (place_of c.column c.row) v) table) ≡ length table
    go true = simp length-set
    go false = refl

pub set-mirrored : (c : Cell) (v : Float) (table : List Float) → Small c → Mirrored table → Mirrored (set_both c v table)
set-mirrored c v table small m =
    record {
      many = set-length c v table ∙ m.many;
      same = λ i j h l. set_cases c v table (λ (t : List Float). Design.cell t i j ≡ Design.cell t j i) (λ w. turned i j h l) (m.same i j h l);
    }
  where
    inside : (there c < length table) × (back c < length (set table (there c) v))
    inside = let e = m.many in let f = length-set table (there c) v in (omega (arith, small), omega (arith, small))

    at_place : (k : ℕ) → get_or (twice c v table) k zero ≡ cond (eqb k (back c)) v (cond (eqb k (there c)) v (get_or table k zero))
    at_place k =
        set-at-place (set table (there c) v) (back c) k v inside.1
        ∙ ap (cond (eqb k (back c)) v) (set-at-place table (there c) k v inside.0)

    turned : (i j : ℕ) → i < 64 → j < 64 → Design.cell (twice c v table) i j ≡ Design.cell (twice c v table) j i
    turned i j h l =
        at_place (i * 64 + j)
        ∙ rw (place-turned i j c.column c.row h l small.column small.row, place-turned i j c.row c.column h l small.row small.column, m.same i j h l)
        (either_way (eqb (j * 64 + i) (there c)) (eqb (j * 64 + i) (back c)) v (get_or table (j * 64 + i) zero))
        ∙ sym (at_place (j * 64 + i))
