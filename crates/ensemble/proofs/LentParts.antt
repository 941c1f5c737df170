-- Parts of what is lent to the search, and its tables of left choices, row by row. Assumes nothing.
use mathlib.Core.Path.{◌≡◌, refl}
use mathlib.Core.Bool.{Bool, true, false, cond}
use mathlib.Core.List.{List, []}
use Prim.Native.Nat.{ℕ, zero, suc, ◌+◌, ◌*◌, ◌-◌, ◌<◌, ◌≤◌}
use native.Mathlib.Omega.{arith}
use lib.Dec.{eqb}
use lib.ListN.{length, get_or, take, drop, replicate}
use Rattle.ensemble.specs.Layout.{Searchable}
use Rattle.ensemble.specs.inner.Entries.{Low, LowTable, choice_in}

-- the part of a list from a place to another
abbrev pub part : {A : Type 0} → List A → ℕ → ℕ → List A
part xs start end = take (end - start) (drop start xs)

-- ---- options

-- what can be read of the row of a position
pub record Bounds (rows counts : List ℕ) (i : ℕ) : Type 0 where
  pub place : i < 128
  pub row : 64 * i + 64 ≤ length rows
  pub some : 0 < get_or counts i 0
  pub few : get_or counts i 0 ≤ 64

module _ {strands : ℕ} {rows counts : List ℕ} (w : Searchable strands rows counts) (i : ℕ) (h : i < length counts) where
  pub bounds : Bounds rows counts i
  bounds =
      let sized = w.readable.sized in
      let short = w.short in
      record { place = omega arith; row = omega arith; some = w.some i h; few = w.readable.few i h }

-- ---- left choices

-- over abstract sizes, as the tables of zeros
low_zeros : (n : ℕ) → Low (replicate n 0)
low_zeros zero k = omega arith
low_zeros (suc n) zero = omega arith
low_zeros (suc n) (suc k) = low_zeros n k

pub table-zeros : (n k e : ℕ) → LowTable (replicate n (replicate k 0)) (replicate e 0)
table-zeros n k e = record { friends = rows n; empties = low_zeros e }
  where
    rows : (n i : ℕ) → Low (get_or (replicate n (replicate {A = ℕ} k 0)) i [])
    rows zero i j = omega arith
    rows (suc n) zero j = low_zeros k j
    rows (suc n) (suc i) j = rows n i j

zero_at : (n k : ℕ) → get_or (replicate {A = ℕ} n 0) k 0 ≡ 0
zero_at zero k = refl
zero_at (suc n) zero = refl
zero_at (suc n) (suc k) = zero_at n k

row-zeros : (n k i x : ℕ) → get_or (get_or (replicate n (replicate {A = ℕ} k 0)) i []) x 0 ≡ 0
row-zeros zero k i x = refl
row-zeros (suc n) k zero x = zero_at k x
row-zeros (suc n) k (suc i) x = row-zeros n k i x

pub choice-zeros : (n k e i x : ℕ) → choice_in (replicate n (replicate k 0)) (replicate e 0) i x ≡ 0
choice-zeros n k e i x = go (eqb x 0)
  where
    go : (t : Bool) → cond t (get_or (replicate {A = ℕ} e 0) i 0) (get_or (get_or (replicate n (replicate {A = ℕ} k 0)) i []) x 0) ≡ 0
    go true = zero_at e i
    go false = row-zeros n k i x
