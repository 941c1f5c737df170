-- Tables by rows: their length, their cells, a list that has these cells, and a test that each cell fails. Assumes nothing.
use mathlib.Core.Path.{◌≡◌, refl, sym, ap, ap₂, ◌∙◌}
use mathlib.Core.Bool.{Bool, false}
use mathlib.Core.List.{List, [], ◌∷◌, ◌++◌}
use Prim.Native.Nat.{ℕ, zero, suc, ◌+◌, ◌*◌, ◌<◌, ◌≤◌}
use native.Mathlib.Nat.{not-suc-le-zero, le_of_suc-le-suc, suc-mul}
use native.Mathlib.Omega.{arith}
use lib.ListN.{length, get_or, take, drop, length-append, length-take, length-drop, take-append-drop, get_or-append}
use lib.Seq.{get_or-append-add, get_or-take, get_or-drop, ext_get_or}
use lib.Ieee.{Float, nan}
use Rattle.lists.specs.Build.{tabulate}
use Rattle.lists.specs.Find.{any}
use Rattle.lists.proofs.Build.{length-tabulate, get_or-tabulate}
use Rattle.lists.proofs.Find.{any_append}
use Rattle.lists.proofs.Any.{all-fail}
use Rattle.bond_tables.specs.Tables.{table}

pub length-table : (rows width : ℕ) (f : ℕ → ℕ → Float) → length (table rows width f) ≡ rows * width
unfolding table
length-table zero width f = omega arith
length-table (suc rows) width f =
    let whole : suc rows * width ≡ rows * width + width = suc-mul rows width in
    length-append (tabulate width (f 0)) (table rows width (λ row. f (suc row)))
    ∙ ap₂ (λ (a b : ℕ). a + b) (length-tabulate width (f 0)) (length-table rows width (λ row. f (suc row)))
    ∙ omega arith

pub table_at : (rows width : ℕ) (f : ℕ → ℕ → Float) (d : Float) (row column : ℕ) → row < rows → column < width → get_or (table rows width f) (row * width + column) d ≡ f row column
unfolding table
table_at zero width f d row column h k = absurd (not-suc-le-zero h)
table_at (suc rows) width f d zero column h k =
    let here : 0 * width + column ≡ column = omega arith in
    ap (λ (n : ℕ). get_or (tabulate width (f 0) ++ table rows width (λ r. f (suc r))) n d) here
    ∙ get_or-append (tabulate width (f 0)) (table rows width (λ r. f (suc r))) d column (rw (length-tabulate width (f 0)) k)
    ∙ get_or-tabulate width (f 0) d column k
table_at (suc rows) width f d (suc row) column h k =
    let whole : suc row * width ≡ row * width + width = suc-mul row width in
    let first : length (tabulate width (f 0)) ≡ width = length-tabulate width (f 0) in
    let past : suc row * width + column ≡ length (tabulate width (f 0)) + (row * width + column) = omega arith in
    ap (λ (n : ℕ). get_or (tabulate width (f 0) ++ table rows width (λ r. f (suc r))) n d) past
    ∙ get_or-append-add (tabulate width (f 0)) (table rows width (λ r. f (suc r))) (row * width + column) d
    ∙ table_at rows width (λ r. f (suc r)) d row column (le_of_suc-le-suc h) k

pub table_is : (rows width : ℕ) (f : ℕ → ℕ → Float) (t : List Float) → length t ≡ rows * width → ((row column : ℕ) → row < rows → column < width → get_or t (row * width + column) nan ≡ f row column) → t ≡ table rows width f
unfolding table
table_is zero width f [] e h = refl
table_is zero width f (x ∷ t) e h = absurd (omega arith)
table_is (suc rows) width f t e h =
    let whole : suc rows * width ≡ rows * width + width = suc-mul rows width in
    let enough : width ≤ length t = omega arith in
    sym (take-append-drop width t)
    ∙ ap₂ ◌++◌
    (ext_get_or nan (take width t) (tabulate width (f 0)) (sized enough)
    (λ k l.
    let inside : k < width = omega (arith, length-take width t) in
    get_or-take width t k nan inside ∙ ap (λ (n : ℕ). get_or t n nan) (first k) ∙ h 0 k (omega arith) inside ∙ sym (get_or-tabulate width (f 0) nan k inside)))
    (table_is rows width (λ row. f (suc row)) (drop width t) (omega (arith, length-drop width t))
    (λ row column k l. get_or-drop width t (row * width + column) nan ∙ ap (λ (n : ℕ). get_or t n nan) (next row column) ∙ h (suc row) column (omega arith) l))
  where
    first : (k : ℕ) → k ≡ 0 * width + k
    first k = omega arith

    next : (row column : ℕ) → width + (row * width + column) ≡ suc row * width + column
    next row column = let whole : suc row * width ≡ row * width + width = suc-mul row width in omega arith

    sized : width ≤ length t → length (take width t) ≡ length (tabulate width (f 0))
    sized enough = let taken = length-take width t in let made = length-tabulate width (f 0) in omega (arith, taken, made)

pub none-in-table : (p : Float → Bool) (rows width : ℕ) (f : ℕ → ℕ → Float) → ((row column : ℕ) → row < rows → column < width → p (f row column) ≡ false) → any p (table rows width f) ≡ false
unfolding table any
none-in-table p zero width f h = refl
none-in-table p (suc rows) width f h =
    let here : any p (tabulate width (f 0)) ≡ false = all-fail p nan (tabulate width (f 0)) (λ k l. let inside : k < width = rw (length-tabulate width (f 0)) at l in rw (get_or-tabulate width (f 0) nan k inside) (h 0 k (omega arith) inside)) in
    let later : any p (table rows width (λ row. f (suc row))) ≡ false = none-in-table p rows width (λ row. f (suc row)) (λ row column k l. h (suc row) column (omega arith) l) in
    rw (any_append p) (simp (here, later))
