-- How many bases there are with each name more. Assumes nothing.
use mathlib.Core.Path.{◌≡◌, refl, ap, ◌∙◌}
use mathlib.Core.List.{List, [], ◌∷◌}
use Prim.Native.Nat.{ℕ, zero, suc, ◌+◌, ◌/◌, ◌<◌, ◌≤◌}
use native.Mathlib.Nat.{le_of_suc-le-suc, not-suc-le-zero}
use native.Mathlib.Omega.{arith}
use lib.Dec.{ltb}
use lib.ListN.{length, take}
use Rattle.lists.specs.Fold.{foldl}
use Rattle.lists.specs.Build.{tabulate}
use Rattle.sdc_common.specs.Lent.{Glue, names_of, glues_of}
use Rattle.sdc_common.specs.Numbers.{learn, bases_of, crowds}
use Rattle.sdc_common.proofs.Fit.{glue_at, glues-listed}

-- the first of a list made by a rule
pub take-tabulate : {A : Type 0} (n m : ℕ) (f : ℕ → A) → n ≤ m → take n (tabulate m f) ≡ tabulate n f
unfolding tabulate
take-tabulate zero m f h = refl
take-tabulate (suc n) zero f h = absurd (not-suc-le-zero h)
take-tabulate (suc n) (suc m) f h = ap (λ xs. f zero ∷ xs) (take-tabulate n m (λ k. f (suc k)) (le_of_suc-le-suc h))

pub crowds-is :
    (most : ℕ) (text rows : List ℕ) (i : ℕ)
    → i < length rows / 3
    → crowds most (glues_of text (names_of rows)) i ≡ ltb most (length (foldl learn [] (tabulate (i + 1) (glue_at text rows))))
unfolding bases_of
crowds-is most text rows i h =
    ap (λ (gs : List Glue). ltb most (length (foldl learn [] (take (i + 1) gs)))) (glues-listed text rows)
    ∙ ap (λ (gs : List Glue). ltb most (length (foldl learn [] gs))) (take-tabulate (i + 1) (length rows / 3) (glue_at text rows) (omega arith))
