-- Bases and equal names, as loops meet them. Assumes nothing.
use mathlib.Core.Path.{◌≡◌, refl, ap, ◌∙◌}
use mathlib.Core.Bool.{Bool, true, false, cond, not, ◌&&◌}
use mathlib.Core.List.{[], ◌∷◌, ◌++◌, reverse, reverse-append}
use Prim.Native.Nat.{ℕ, zero, suc, ◌+◌, ◌≤◌}
use native.Mathlib.Omega.{arith}
use lib.Dec.{eqb}
use lib.ListN.{length, length-reverse}
use borrow.Author.Tests.{eq-eqb, ne_eqb}
use Rattle.std.specs.List.{position_or_len}
use Rattle.std.proofs.lemmas.List.Folds.{position_or_len_push}
use Rattle.lists.specs.Find.{first_index}
use Rattle.lists.proofs.Find.{first-le-step}
use Rattle.lists.proofs.Searches.{first_is}
use Rattle.sdc_common.specs.Names.{Name, is_star, base_length, stars_of}

-- ---- bases

star-step : (t : Bool) (m n : ℕ) → m ≡ n → cond (t && eqb m 0) 0 (suc m) ≡ cond (t && eqb n 0) 0 (suc n)
star-step t m n e = ap (λ (k : ℕ). cond (t && eqb k 0) 0 (suc k)) e

-- one trailing star more changes nothing
pub base-star : (s : Name) → base_length (s ++ (42 ∷ [])) ≡ base_length s
unfolding base_length
base-star [] = refl
base-star (b ∷ s) = star-step (is_star b) _ _ (base-star s)

pub base-le : (s : Name) → base_length s ≤ length s
unfolding base_length
base-le [] = omega arith
base-le (b ∷ s) = first-le-step (is_star b && eqb (base_length s) 0) _ _ (base-le s)

-- ---- stars counted from the end

abbrev pub is_other : ℕ → Bool
is_other byte = not (is_star byte)

count-step : (t : Bool) (n q l : ℕ) → n + q ≡ l → cond (t && eqb n 0) 0 (suc n) + cond (eqb q l) (l + cond (not t) 0 1) q ≡ suc l
count-step true zero q l e = rw (eq-eqb q l (omega (arith, e))) (omega (arith, e))
count-step true (suc n) q l e = rw (ne_eqb (suc n) 0 (λ h. omega (arith, h)), ne_eqb q l (λ h. omega (arith, e, h))) (omega (arith, e))
count-step false zero q l e = rw (eq-eqb q l (omega (arith, e))) (omega (arith, e))
count-step false (suc n) q l e = rw (ne_eqb q l (λ h. omega (arith, e, h))) (omega (arith, e))

base-and-stars : (s : Name) → base_length s + position_or_len is_other (reverse s) ≡ length s
unfolding base_length
base-and-stars [] = refl
base-and-stars (b ∷ s) =
    rw (reverse-append (b ∷ []) s, position_or_len_push is_other (reverse s) b, length-reverse s)
    (count-step (is_star b) (base_length s) (position_or_len is_other (reverse s)) (length s) (base-and-stars s))

-- the first byte from the end that is no star
pub stars-first : (s : Name) → first_index is_other (reverse s) ≡ stars_of s
unfolding stars_of
stars-first s = let n = base-and-stars s in first_is is_other (reverse s) ∙ omega (arith, n)
