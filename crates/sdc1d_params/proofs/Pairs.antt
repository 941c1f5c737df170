-- Cells that are one pair, and lists of cells in which a pair stands twice, as a loop meets them. Assumes nothing.
use mathlib.Core.Path.{◌≡◌, refl, ap, ap₂, sym, ◌∙◌}
use mathlib.Core.Bool.{Bool, true, false, ◌&&◌, ◌||◌, and_comm, or-true}
use mathlib.Core.List.{List, [], ◌∷◌, ◌++◌}
use Prim.Native.Nat.{ℕ, zero, suc, ◌+◌, ◌<◌}
use native.Mathlib.Nat.{not-suc-le-zero}
use native.Mathlib.Decide.{ℕ_discrete}
use native.Mathlib.Numerals.{add-one}
use native.Mathlib.Omega.{arith}
use lib.Dec.{eqb}
use borrow.Author.Tests.{eqb-true, eqb-false, eq-eqb, ne_eqb}
use Rattle.lists.specs.Find.{any}
use Rattle.lists.specs.Build.{tabulate}
use Rattle.lists.proofs.Tests.{or-exchange}
use Rattle.lists.proofs.Find.{any_append}
use Rattle.lists.proofs.Counted.{tabulate-suc}
use Rattle.sdc1d_params.specs.Entries.{Cell, is_written, same_pair}
use Rattle.sdc1d_params.specs.Tables.{duplicated}

pub eqb_comm : (a b : ℕ) → eqb a b ≡ eqb b a
eqb_comm a b = go (eqb a b) refl
  where
    go : (t : Bool) → eqb a b ≡ t → eqb a b ≡ eqb b a
    go true e = e ∙ sym (eq-eqb b a (sym (eqb-true a b e)))
    go false e = e ∙ sym (ne_eqb b a (λ h. eqb-false a b e (sym h)))

pub same-pair-comm : (c d : Cell) → same_pair c d ≡ same_pair d c
unfolding same_pair
same-pair-comm c d =
    ap₂ (λ (x y : Bool). x && y) (and_comm (is_written c) (is_written d))
    (ap₂ (λ (x y : Bool). x || y)
    (ap₂ (λ (x y : Bool). x && y) (eqb_comm c.row d.row) (eqb_comm c.column d.column))
    (ap₂ (λ (x y : Bool). x && y) (eqb_comm c.row d.column) (eqb_comm c.column d.row) ∙ and_comm (eqb d.column c.row) (eqb d.row c.column)))

-- one cell more at the end
pub duplicated-snoc : (cs : List Cell) (c : Cell) → duplicated (cs ++ (c ∷ [])) ≡ (duplicated cs || any (same_pair c) cs)
unfolding duplicated any
duplicated-snoc [] c = refl
duplicated-snoc (d ∷ cs) c =
    rw (any_append (same_pair d) cs (c ∷ []), duplicated-snoc cs c, same-pair-comm c d)
    (alike (any (same_pair d) cs) (same_pair d c) (duplicated cs) (any (same_pair c) cs))
  where
    alike : (a b e f : Bool) → ((a || (b || false)) || (e || f)) ≡ ((a || e) || (b || f))
    alike a true e f = or-exchange a true e f
    alike a false e f = or-exchange a false e f

module _ (f : ℕ → Cell) where
  step : (n : ℕ) → duplicated (tabulate (suc n) f) ≡ (duplicated (tabulate n f) || any (same_pair (f n)) (tabulate n f))
  step n = ap duplicated (tabulate-suc n f) ∙ duplicated-snoc (tabulate n f) (f n)

  pub duplicated-more : (i : ℕ) → duplicated (tabulate i f) ≡ false → any (same_pair (f i)) (tabulate i f) ≡ false → duplicated (tabulate (i + 1) f) ≡ false
  duplicated-more i e h = rw add-one (step i ∙ simp (e, h))

  pub duplicated-found : (n i : ℕ) → i < n → any (same_pair (f i)) (tabulate i f) ≡ true → duplicated (tabulate n f) ≡ true
  duplicated-found zero i h e = absurd (not-suc-le-zero h)
  duplicated-found (suc n) i h e = step n ∙ go (ℕ_discrete i n) (λ k. duplicated-found n i k e)
    where
      go : Dec (i ≡ n) → (i < n → duplicated (tabulate n f) ≡ true) → (duplicated (tabulate n f) || any (same_pair (f n)) (tabulate n f)) ≡ true
      go (yes q) below = rw (← q) (rw e (or-true (duplicated (tabulate i f))))
      go (no q) below = rw (below (omega arith))
