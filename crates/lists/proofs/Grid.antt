-- A table that a loop over rows and one over the cells of a row fill. Assumes nothing.
use mathlib.Core.Path.{◌≡◌, ◌∙◌}
use mathlib.Core.List.{List}
use Prim.Native.Nat.{ℕ, suc, ◌+◌, ◌*◌, ◌<◌, ◌≤◌}
use native.Mathlib.Nat.{not-suc-le-zero, mul-le-mul_right, suc-mul}
use native.Mathlib.Omega.{arith}
use lib.ListN.{length, get_or, set, length-set}
use lib.Seq.{get_or-set_same, get_or-set_other}
use borrow.Author.Count.{below_more}
use Rattle.lists.specs.Grid.{Grid}

-- row a of a table ends where the next begins
pub row-end : {row rows : ℕ} (width : ℕ) → row < rows → row * width + width ≤ rows * width
row-end {row} {rows} width h = let k : suc row * width ≤ rows * width = mul-le-mul_right width h in rw suc-mul at k

-- a cell of a table of so many rows
pub cell_in : {row rows column : ℕ} (width : ℕ) → row < rows → column < width → row * width + column < rows * width
cell_in width h k = omega (arith, row-end width h)

module _ {A : Type 0} {f : ℕ → ℕ → A} {d : A} {width size : ℕ} {t : List A} where
  pub grid-none : length t ≡ size → Grid f d width size 0 0 t
  grid-none e = record { sized = e; above = λ row column h k. absurd (not-suc-le-zero h); here = λ column h. absurd (not-suc-le-zero h) }

  pub grid-more : {rows cells : ℕ} {v : A} → Grid f d width size rows cells t → rows * width + cells < size → v ≡ f rows cells → Grid f d width size rows (cells + 1) (set t (rows * width + cells) v)
  grid-more {rows} {cells} {v} w h e = record {
    sized = length-set t (rows * width + cells) v ∙ w.sized;
    above = λ row column k l. get_or-set_other t (rows * width + cells) (row * width + column) v d (λ same. let end = row-end width k in omega arith) ∙ w.above row column k l;
    here = below_more (λ column. get_or (set t (rows * width + cells) v) (rows * width + column) d ≡ f rows column) cells
        (λ column k. get_or-set_other t (rows * width + cells) (rows * width + column) v d (λ same. omega arith) ∙ w.here column k)
        (get_or-set_same t (rows * width + cells) v d (rw w.sized h) ∙ e);
  }

  pub grid-next : {rows cells : ℕ} → Grid f d width size rows cells t → width ≤ cells → Grid f d width size (rows + 1) 0 t
  grid-next {rows} {cells} w h = record {
    sized = w.sized;
    above = λ row column k l.
        below_more (λ (r : ℕ). get_or t (r * width + column) d ≡ f r column) rows (λ r b. w.above r column b l) (w.here column (omega arith)) row k;
    here = λ column k. absurd (not-suc-le-zero k);
  }
