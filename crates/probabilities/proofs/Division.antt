-- Digits of a quotient of two weights, cut to 31, and the weight that they give. Assumes nothing.
use mathlib.Core.Path.{◌≡◌, refl, sym, ap, ◌∙◌, subst}
use mathlib.Core.Bool.{Bool, true, false, cond, not}
use Prim.Native.Nat.{ℕ, suc, ◌+◌, ◌*◌, ◌/◌, ◌^◌, ◌≤◌, ◌<◌}
use native.Mathlib.Nat.{mul-le-mul_right, eq_of_mul-eq-mul_right, one-mul, mul-one, div-mul-le_self, lt-div-mul-add, le-div_iff_mul-le, div-lt_iff_lt-mul}
use native.Mathlib.Omega.{arith}
use lib.Dec.{T, leb, leb→le, nleb→lt, lit≤}
use lib.IntN.{ℤ, pos, negsuc, ◌+ℤ◌}
use lib.Ieee.{up, down}
use lib.Ieee.Fits.{down_pos}
use lib.Pow.{pow-add}
use Rattle.fractions.specs.Frac.{times, inverse, LeFrac}
use Rattle.probabilities.specs.Quotient.{cut}
use Rattle.fractions.specs.declared.Weight.{Weight}
use Rattle.fractions.specs.Weight.{weight, worth, InForm}
use Rattle.partition.proofs.Lifted.{power-back}

abbrev pub shift_of : ℕ → ℕ → ℕ
shift_of a b = cond (leb b a) 30 31

unfoldable pub over_digits : ℕ → ℕ → ℕ
over_digits a b = a * 2 ^ shift_of a b / b

pub record Digits (a b s q : ℕ) : Type 0 where
  pub least : 2 ^ 30 ≤ q
  pub most : q < 2 ^ 31
  pub under : q * b ≤ a * 2 ^ s
  pub over : a * 2 ^ s ≤ (q + 1) * b

digits-at : (a b p : ℕ) → 0 < b → 2 ^ 30 * b ≤ p → p < 2 ^ 31 * b → (2 ^ 30 ≤ p / b) × (p / b < 2 ^ 31) × (p / b * b ≤ p) × (p ≤ (p / b + 1) * b)
digits-at a b p B l h = ((le-div_iff_mul-le B).1 l, (div-lt_iff_lt-mul B).1 h, div-mul-le_self p b, omega (arith, lt-div-mul-add {a = p} B))

pub digits-right : (a b : ℕ) → 2 ^ 30 ≤ a → a < 2 ^ 31 → 2 ^ 30 ≤ b → b < 2 ^ 31 → Digits a b (shift_of a b) (over_digits a b)
unfolding over_digits
digits-right a b al am bl bm = go (leb b a) (leb→le b a) (nleb→lt b a)
  where
    go : (c : Bool) → (T c → b ≤ a) → (T (not c) → a < b) → Digits a b (cond c 30 31) (a * 2 ^ cond c 30 31 / b)
    go true h k =
        let l : b ≤ a = h tt in
        let d = digits-at a b (a * 2 ^ 30) (omega arith) (omega arith) (omega arith) in
        record { least = d.0; most = d.1; under = d.2; over = d.3 }
    go false h k =
        let l : a < b = k tt in
        let d = digits-at a b (a * 2 ^ 31) (omega arith) (omega arith) (omega arith) in
        record { least = d.0; most = d.1; under = d.2; over = d.3 }

-- ---- powers of two with signs: 2^(x + y) = 2^x 2^y
pub scale-sum : (x y : ℤ) → up (x +ℤ y) * (down x * down y) ≡ up x * up y * down (x +ℤ y)
scale-sum (pos a) (pos b) = rw (pow-add 2 a b) refl
scale-sum (pos a) (negsuc b) = rw (one-mul (2 ^ suc b), mul-one (2 ^ a)) (power-back 30 (lit≤ tt) a (suc b))
scale-sum (negsuc a) (pos b) = rw (mul-one (2 ^ suc a), one-mul (2 ^ b)) (power-back 30 (lit≤ tt) b (suc a))
scale-sum (negsuc a) (negsuc b) = let e : suc a + suc b ≡ suc (suc (a + b)) = omega arith in ap (λ (z : ℕ). 1 * z) (sym (pow-add 2 (suc a) (suc b)) ∙ ap (λ (z : ℕ). 2 ^ z) e)

cancel-alg : (ua ub ue ux da db de dx p : ℕ) → 0 < dx → ux * (de * 1) ≡ ue * p * dx → ua * (dx * db) ≡ ux * ub * da → ua * db * de ≡ p * (ue * ub * da)
cancel-alg ua ub ue ux da db de dx p D f g = eq_of_mul-eq-mul_right dx D _ _ (omega (arith, ap (λ (z : ℕ). ub * da * z) f, ap (λ (z : ℕ). de * z) g))

under-alg : (a b q p m n : ℕ) → n ≡ p * m → q * b ≤ a * p → q * b * m ≤ a * n
under-alg a b q p m n e h = rw e (omega (arith, mul-le-mul_right m h))

over-alg : (a b q p m n K : ℕ) → n ≡ p * m → K ≤ q → a * p ≤ (q + 1) * b → K * (a * n) ≤ suc K * (q * b * m)
over-alg a b q p m n K e k h = rw e (omega (arith, mul-le-mul_right (K * m) h, mul-le-mul_right (b * m) k))

-- the quotient of two weights in form: no more than the exact one, and less by one part in 2^30 at most
pub quotient-right : (v w : Weight) (e : ℤ) → InForm v → InForm w → (e +ℤ pos (shift_of v.digits w.digits)) +ℤ w.power ≡ v.power
    → LeFrac (times cut (times (worth v) (inverse (worth w)))) (worth (weight (over_digits v.digits w.digits) e))
    × LeFrac (worth (weight (over_digits v.digits w.digits) e)) (times (worth v) (inverse (worth w)))
quotient-right v w e fv fw h =
    let a = v.digits in
    let b = w.digits in
    let s = shift_of a b in
    let q = over_digits a b in
    let x = e +ℤ pos s in
    let d = digits-right a b fv.least fv.most fw.least fw.most in
    let f : up x * (down e * 1) ≡ up e * 2 ^ s * down x = scale-sum e (pos s) in
    let g : up v.power * (down x * down w.power) ≡ up x * up w.power * down v.power = subst (λ (z : ℤ). up z * (down x * down w.power) ≡ up x * up w.power * down z) h (scale-sum x w.power) in
    let m = up e * up w.power * down v.power in
    let n = up v.power * down w.power * down e in
    let k : n ≡ 2 ^ s * m = cancel-alg (up v.power) (up w.power) (up e) (up x) (down v.power) (down w.power) (down e) (down x) (2 ^ s) (down_pos x) f g in (
      record { cross = low-shape a b q (up v.power) (up w.power) (up e) (down v.power) (down w.power) (down e) (2 ^ 30) (over-alg a b q (2 ^ s) m n (2 ^ 30) k d.least d.over) },
      record { cross = high-shape a b q (up v.power) (up w.power) (up e) (down v.power) (down w.power) (down e) (under-alg a b q (2 ^ s) m n k d.under) },
    )
  where
    low-shape : (a b q ua ub ue da db de K : ℕ) → K * (a * (ua * db * de)) ≤ suc K * (q * b * (ue * ub * da)) → K * (a * ua * db) * de ≤ q * ue * ((K + 1) * (da * (b * ub)))
    low-shape a b q ua ub ue da db de K h = omega (arith, h)

    high-shape : (a b q ua ub ue da db de : ℕ) → q * b * (ue * ub * da) ≤ a * (ua * db * de) → q * ue * (da * (b * ub)) ≤ a * ua * db * de
    high-shape a b q ua ub ue da db de h = omega (arith, h)
