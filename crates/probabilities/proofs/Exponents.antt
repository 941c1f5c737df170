-- Exponents of a quotient: two modest ones and a shift stay within 32 bits, and the quotient's is the one that the division asks for. Assumes nothing.
use mathlib.Core.Path.{◌≡◌, refl, ap, ap₂, ◌∙◌, subst}
use mathlib.Core.Logic.{◌⊎◌, inl, inr}
use mathlib.Core.Bool.{Bool, true, false, not, cond}
use Prim.Native.Nat.{ℕ, zero, suc, ◌+◌, ◌-◌, ◌*◌, ◌/◌, ◌%◌, ◌^◌, ◌≤◌, ◌<◌}
use native.Mathlib.Nat.{not-le_of_lt}
use native.Mathlib.Omega.{arith}
use lib.Dec.{T, leb, ltb, leb→le, nleb→lt}
use lib.IntN.{ℤ, pos, negsuc, nat_abs, sub_ℕ, ◌+ℤ◌, ◌-ℤ◌, -ℤ-+ℤ_cancel}
use lib.Signed.{mag}
use mir.Syntax.{w32}
use mir.Val.{to_z, of_z, SFits}
use mir.Facts.{to_z-of_z}
use Rattle.fractions.specs.declared.Weight.{Weight}
use Rattle.fractions.specs.Weight.{weight, InForm}
use Rattle.probabilities.specs.Quotient.{Divided, Quotiented, Modest}
use Rattle.probabilities.proofs.Division.{shift_of, over_digits, digits-right, quotient-right}

-- ---- size

sub-size : (a b : ℕ) → mag (sub_ℕ a b) ≤ a + b
sub-size a b = go (ltb a b)
  where
    go : (c : Bool) → mag (cond c (negsuc (b - suc a)) (pos (a - b))) ≤ a + b
    go true = omega arith
    go false = omega arith

difference-size : (x y : ℤ) → mag (x -ℤ y) ≤ mag x + mag y + 2
difference-size (pos a) (pos zero) = omega arith
difference-size (pos a) (pos (suc b)) = omega (arith, sub-size a (suc b))
difference-size (pos a) (negsuc b) = omega arith
difference-size (negsuc a) (pos zero) = omega (arith, sub-size 0 (suc a))
difference-size (negsuc a) (pos (suc b)) = omega arith
difference-size (negsuc a) (negsuc b) = omega (arith, sub-size (suc b) (suc a))

-- ---- as 32 bits hold them

module _ (x y : ℤ) (X : mag x ≤ 2 ^ 28) (Y : mag y ≤ 2 ^ 28) where
  held : (z : ℤ) → mag z ≤ 2 ^ 28 → to_z w32 (of_z w32 z) ≡ z
  held z Z = to_z-of_z {w = w32} (record { sfits = omega (arith, Z) })

  abbrev difference : ℤ
  difference = to_z w32 (of_z w32 x) -ℤ to_z w32 (of_z w32 y)

  difference-is : difference ≡ x -ℤ y
  difference-is = ap₂ ◌-ℤ◌ (held x X) (held y Y)

  difference-fits : SFits w32 difference
  difference-fits = rw difference-is (record { sfits = omega (arith, difference-size x y, X, Y) })

  module _ (s : ℕ) (S : s ≤ 31) where
    abbrev pub shifted : ℤ
    shifted = to_z w32 (of_z w32 difference) -ℤ pos s

    shifted-is : shifted ≡ x -ℤ y -ℤ pos s
    shifted-is = ap (λ (z : ℤ). z -ℤ pos s) (to_z-of_z difference-fits ∙ difference-is)

    shifted_fits : SFits w32 shifted
    shifted_fits = rw shifted-is (record { sfits = omega (arith, difference-size (x -ℤ y) (pos s), difference-size x y, X, Y, S) })

    pub back : (to_z w32 (of_z w32 shifted) +ℤ pos s) +ℤ y ≡ x
    back = ap (λ (z : ℤ). (z +ℤ pos s) +ℤ y) (to_z-of_z shifted_fits ∙ shifted-is) ∙ ap (λ (z : ℤ). z +ℤ y) (-ℤ-+ℤ_cancel (x -ℤ y) (pos s)) ∙ -ℤ-+ℤ_cancel x y

-- ---- the digits

pub shift-thirty : (a b : ℕ) → b ≤ a → shift_of a b ≡ 30
shift-thirty a b h = go (leb b a) (nleb→lt b a)
  where
    go : (c : Bool) → (T (not c) → a < b) → ◌≡◌ {A = ℕ} (cond c 30 31) 30
    go true k = refl
    go false k = absurd (not-le_of_lt (k tt) h)

pub shift-more : (a b : ℕ) → a < b → shift_of a b ≡ 31
shift-more a b h = go (leb b a) (leb→le b a)
  where
    go : (c : Bool) → (T c → b ≤ a) → ◌≡◌ {A = ℕ} (cond c 30 31) 31
    go true k = absurd (not-le_of_lt h (k tt))
    go false k = refl

divided-by : (v w : Weight) (e : ℤ) → InForm v → InForm w → (e +ℤ pos (shift_of v.digits w.digits)) +ℤ w.power ≡ v.power → Divided v w (weight (over_digits v.digits w.digits) e)
divided-by v w e fv fw p =
    let d = digits-right v.digits w.digits fv.least fv.most fw.least fw.most in
    let q = quotient-right v w e fv fw p in
    record { form = record { least = d.least; most = d.most }; reached = q.0; kept = q.1 }

divided : (v w : Weight) (e : ℤ) (s : ℕ) → shift_of v.digits w.digits ≡ s → InForm v → InForm w → (e +ℤ pos s) +ℤ w.power ≡ v.power → Divided v w (weight (v.digits * 2 ^ s / w.digits) e)
unfolding over_digits
divided v w e s h fv fw =
    subst (λ (z : ℕ). (e +ℤ pos z) +ℤ w.power ≡ v.power → Divided v w (weight (v.digits * 2 ^ z / w.digits) e)) h (divided-by v w e fv fw)

-- the quotient of a weight that is not zero
quotiented : (v w : Weight) (s : ℕ) (S : s ≤ 31) (X : Modest v) (Y : Modest w) → (v.digits ≡ 0 → ⊥) → InForm w → shift_of v.digits w.digits ≡ s
    → Quotiented v w (weight (v.digits * 2 ^ s / w.digits) (to_z w32 (of_z w32 (shifted v.power w.power X Y s S))))
quotiented v w s S X Y n fw h =
    record {
      none = λ z. absurd (n (ap (λ (u : Weight). u.digits) z));
      some = λ fv. divided v w _ s h fv fw (back v.power w.power X Y s S);
    }

-- digits of 31 bits, shifted left by as much, lose none in 64
digits-shifted : (d s : ℕ) → d < 2 ^ 31 → (s ≡ 30) ⊎ (s ≡ 31) → d * 2 ^ s % 18446744073709551616 ≡ d * 2 ^ s
digits-shifted d s h (inl e) = rw e (omega arith)
digits-shifted d s h (inr e) = rw e (omega arith)

-- the same of the numbers as the code has them: the shift is a signed number, and the digits are widened
pub quotiented-by : (v w : Weight) (s : ℕ) (S : s ≤ 31) (X : Modest v) (Y : Modest w) → (v.digits ≡ 0 → ⊥) → InForm w → v.digits < 2 ^ 31
    → shift_of v.digits w.digits ≡ s → (s ≡ 30) ⊎ (s ≡ 31) → (z : ℤ) → z ≡ pos s → (a b : ℕ) → a ≡ v.digits → b ≡ w.digits
    → Quotiented v w (weight (a * 2 ^ nat_abs z % 18446744073709551616 / b)
    (to_z w32 (of_z w32 (to_z w32 (of_z w32 (to_z w32 (of_z w32 v.power) -ℤ to_z w32 (of_z w32 w.power))) -ℤ z))))
quotiented-by v w s S X Y n fw few h k z e a b A B =
    rw (e, A, B, digits-shifted v.digits s few k) (quotiented v w s S X Y n fw h)
