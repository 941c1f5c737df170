-- The lengths of the loop table, as the code lists them, and the longest up to a length. Assumes nothing.
use mathlib.Core.Path.{◌≡◌, refl, sym, ◌∙◌}
use mathlib.Core.Bool.{Bool, true, false, cond}
use mathlib.Core.List.{List, [], ◌∷◌, map}
use Prim.Native.Nat.{ℕ, suc, ◌+◌, ◌≤◌, ◌<◌, zero-le}
use native.Mathlib.Omega.{arith}
use lib.Dec.{T, leb, leb→le}
use lib.ListN.{length, get_or, drop, get_or-map}
use borrow.Author.Tests.{le-leb}
use Rattle.std.specs.List.{prefix_len}
use Rattle.std.proofs.lemmas.List.Sums.{prefix_len-le-length}
use Rattle.lists.specs.Build.{keep}
use Rattle.utils.specs.Paper.{Loop, no_loop, table4}
use Rattle.utils.specs.Figures.{loop_rows, row_up_to, entry_up_to}

abbrev pub length_of : Loop → ℕ
length_of l = l.length

abbrev pub lengths : List ℕ
lengths = 3 ∷ 4 ∷ 5 ∷ 6 ∷ 7 ∷ 8 ∷ 9 ∷ 10 ∷ 12 ∷ 14 ∷ 16 ∷ 18 ∷ 20 ∷ 25 ∷ 30 ∷ []

pub fifteen : length loop_rows ≡ 15
unfolding loop_rows keep table4
fifteen = refl

pub length_at : (i : ℕ) → get_or lengths i 0 ≡ length_of (get_or loop_rows i no_loop)
unfolding loop_rows keep table4
length_at i = get_or-map length_of loop_rows i no_loop

-- what is found is no longer than n
row-le : (n : ℕ) (found : Loop) (ls : List Loop) → found.length ≤ n → (row_up_to n found ls).length ≤ n
unfolding row_up_to
row-le n found [] h = h
row-le n found (l ∷ ls) h = go (leb l.length n) (leb→le l.length n) (λ (k : l.length ≤ n). row-le n l ls k)
  where
    go : (t : Bool) → (T t → l.length ≤ n) → (l.length ≤ n → (row_up_to n l ls).length ≤ n) → (cond t (row_up_to n l ls) found).length ≤ n
    go true p r = r (p tt)
    go false p r = h

pub entry-le : (n : ℕ) → (entry_up_to n).length ≤ n
unfolding entry_up_to
entry-le n = row-le n no_loop loop_rows zero-le

-- ---- the code's search: how many rows after the first are no longer
row-counted : (n : ℕ) (found : Loop) (ls : List Loop) → row_up_to n found ls ≡ get_or (found ∷ ls) (prefix_len (λ l. leb l.length n) ls) no_loop
unfolding row_up_to
row-counted n found [] = refl
row-counted n found (l ∷ ls) = go (leb l.length n) (row-counted n l ls)
  where
    k : ℕ
    k = prefix_len (λ l. leb l.length n) ls

    go : (t : Bool) → row_up_to n l ls ≡ get_or (l ∷ ls) k no_loop → cond t (row_up_to n l ls) found ≡ get_or (found ∷ l ∷ ls) (cond t (1 + k) 0) no_loop
    go true e = let next : 1 + k ≡ suc k = omega arith in rw next e
    go false e = refl

counted-lengths : (n : ℕ) (ls : List Loop) → prefix_len (λ l. leb l n) (map length_of ls) ≡ prefix_len (λ l. leb l.length n) ls
counted-lengths n [] = refl
counted-lengths n (l ∷ ls) = rw (counted-lengths n ls) refl

pub entry-counted : (n k : ℕ) → 3 ≤ n → k ≡ prefix_len (λ l. leb l n) (drop 1 lengths) → (k < 15) × (get_or loop_rows k no_loop ≡ entry_up_to n)
unfolding entry_up_to row_up_to loop_rows keep table4
entry-counted n k h e =
    let rows = drop 1 loop_rows in
    let first = get_or loop_rows 0 no_loop in
    let place : k ≡ prefix_len (λ (l : Loop). leb l.length n) rows = e ∙ counted-lengths n rows in
    let few = prefix_len-le-length (λ l. leb l n) (drop 1 lengths) in
    (omega (arith, e, few), rw (place, le-leb 3 n h) (sym (row-counted n first rows)))
