-- Powers of two as doubles, and products with them, which round once. Assumes nothing.
use mathlib.Core.Path.{◌≡◌, refl, sym, ap, ◌∙◌, subst}
use mathlib.Core.Bool.{Bool, true, false, true≢false, false≢true}
use Prim.Native.Nat.{ℕ, zero, suc, ◌+◌, ◌-◌, ◌*◌, ◌/◌, ◌%◌, ◌^◌, ◌≤◌, ◌<◌}
use native.Mathlib.Nat.{mul-div_cancel, mul-mod_left, mul-one, one-mul, mul_assoc, mul_comm, mul_left_comm, mul-pos, not-suc-le-zero, lt_irrefl, lt_of_lt_of_le, le_of_eq, mod-eq_of_lt, mul-le-mul_right, mul-le-mul_left, le_trans, le_of_lt}
use native.Mathlib.Omega.{arith}
use lib.Dec.{T, leb, lit<}
use lib.Pow.{pow_pos, pow-add}
use lib.IntN.{ℤ, pos, negsuc, nat_abs}
use lib.Signed.{lt_z}
use lib.Ieee.{Float, nan, inf, fin, binary64, up, down, of_bits, of_fields, round, mul, le, lt, of_int, fits}
use lib.Ieee.Exact.{HasValue, odd_sign, round_exact}
use lib.Ieee.Positive.{positive, positive_of_value, mul_at}
use lib.Ieee.Order.{round_mono}
use lib.Ieee.Scale.{round_same}
use lib.Ieee.Back.{round_whole}
use mir.Syntax.{w32}
use mir.Val.{to_z, of_z, SFits}
use mir.Facts.{to_z-of_z}
use borrow.Author.Tests.{ne_eqb, lt-leb, ltb-true, ltb-false}
use lib.Ieee.Fits.{round-fits}
use Rattle.doubles.specs.Size.{Real, mag, sgn}
use Rattle.doubles.specs.Order.{over}
use Rattle.doubles.proofs.Order.{no→Le, le→Le}
use Rattle.doubles.proofs.Fields.{bits-fields}
use Rattle.exponential.specs.Near.{zero_float}

-- ---- a power of two

normal-value : (x : ℕ) → suc x < 2047 → HasValue (of_fields binary64 false (suc x) 0) false (2 ^ 52 * 2 ^ x) (2 ^ 1074)
unfolding of_fields
normal-value x h = rw (ne_eqb (suc x) 2047 (λ (e : suc x ≡ 2047). lt_irrefl 2047 (lt_of_lt_of_le (le_of_eq (ap suc (sym e))) h))) (odd_sign 53 false (2 ^ 52) x 1074)

pub power-value : (e : ℕ) → 0 < e → e < 2047 → HasValue (of_bits binary64 (e * 2 ^ 52)) false (2 ^ 52 * 2 ^ (e - 1)) (2 ^ 1074)
power-value zero p h = absurd (not-suc-le-zero p)
power-value (suc x) p h =
    let n = suc x * 2 ^ 52 in
    let small : n < 2 ^ 63 = omega (arith, h) in
    let fields = bits-fields binary64 n in
    let own : n % 2 ^ 63 ≡ n = mod-eq_of_lt small in
    let sign : leb (2 ^ 63) n ≡ false = lt-leb (2 ^ 63) n small in
    let exponent : n % 2 ^ 63 / 2 ^ 52 ≡ suc x = ap (λ (z : ℕ). z / 2 ^ 52) own ∙ mul-div_cancel (suc x) (lit< tt) in
    let rest : n % 2 ^ 52 ≡ 0 = mul-mod_left (suc x) (2 ^ 52) in
    let is : suc x - 1 ≡ x = omega arith in
    rw (is, fields, sign, exponent, rest) (normal-value x h)

-- ---- products

-- digits of 32 bits are a double
pub digits-value : (a : ℕ) → a < 2 ^ 32 → HasValue (of_int binary64 (pos a)) false a 1
unfolding of_int
digits-value a h = round_whole binary64 false a (omega (arith, h))

-- and so are they over 2^126
lowered-value : (a : ℕ) → a < 2 ^ 32 → HasValue (round binary64 false (a * 1) (1 * 2 ^ 126)) false a (2 ^ 126)
lowered-value a h = rw (mul-one a) (round_exact binary64 false a (2 ^ 126) a 948 (lit< tt) (omega (arith, h)) (omega (arith, h)) (omega arith))

module _ (a e : ℕ) (some : 0 < a) (h : a < 2 ^ 32) (p : 0 < e) (q : e < 2047) (y : Float) (value : HasValue y false (2 ^ 52 * 2 ^ (e - 1)) (2 ^ 1074)) where
  power-positive : T (positive y)
  power-positive = positive_of_value y (2 ^ 52 * 2 ^ (e - 1)) (2 ^ 1074) value (mul-pos (lit< tt) (pow_pos (e - 1)))

  digits-positive : T (positive (of_int binary64 (pos a)))
  digits-positive = positive_of_value (of_int binary64 (pos a)) a 1 (digits-value a h) some

  pub raised-is : mul binary64 (of_int binary64 (pos a)) y ≡ round binary64 false (a * (2 ^ 52 * 2 ^ (e - 1))) (2 ^ 1074)
  raised-is =
      mul_at binary64 (of_int binary64 (pos a)) y a 1 (2 ^ 52 * 2 ^ (e - 1)) (2 ^ 1074) digits-positive power-positive (lit< tt) (pow_pos 1074) (digits-value a h) value
      ∙ ap (round binary64 false (a * (2 ^ 52 * 2 ^ (e - 1)))) (one-mul (2 ^ 1074))

  pub lowered-is : (d : Float) → HasValue d false 1 (2 ^ 126) → mul binary64 (mul binary64 (of_int binary64 (pos a)) d) y ≡ round binary64 false (a * (2 ^ 52 * 2 ^ (e - 1))) (2 ^ 126 * 2 ^ 1074)
  lowered-is d v =
      let first = mul_at binary64 (of_int binary64 (pos a)) d a 1 1 (2 ^ 126) digits-positive (positive_of_value d 1 (2 ^ 126) v (lit< tt)) (lit< tt) (lit< tt) (digits-value a h) v in
      let x : HasValue (mul binary64 (of_int binary64 (pos a)) d) false a (2 ^ 126) = rw first (lowered-value a h) in
      mul_at binary64 (mul binary64 (of_int binary64 (pos a)) d) y a (2 ^ 126) (2 ^ 52 * 2 ^ (e - 1)) (2 ^ 1074) (positive_of_value _ a (2 ^ 126) x some) power-positive (lit< tt) (pow_pos 1074) x value

-- ---- by the power

up-cross : (a b c e d : ℕ) → b * c ≡ d → a * (b * (c * e)) * 1 ≡ a * e * d
up-cross a b c e d h = rw (← h) (simp (mul-one, mul_assoc, mul_comm, mul_left_comm))

down-cross : (a b x k d : ℕ) → b * (x * k) ≡ d → a * (b * x) * k ≡ a * 1 * d
down-cross a b x k d h = rw (← h) (simp (mul-one, mul_assoc))

-- from 0 on
pub raised-same : (a k : ℕ) → round binary64 false (a * (2 ^ 52 * 2 ^ (1023 + k - 1))) (2 ^ 1074) ≡ round binary64 false (a * 2 ^ k) 1
raised-same a k =
    let place : 1023 + k - 1 ≡ 1022 + k = omega arith in
    rw (place, pow-add 2 1022 k) (round_same binary64 false (a * (2 ^ 52 * (2 ^ 1022 * 2 ^ k))) (2 ^ 1074) (a * 2 ^ k) 1 (pow_pos 1074) (lit< tt) (up-cross a (2 ^ 52) (2 ^ 1022) (2 ^ k) (2 ^ 1074) refl))

-- below 0
pub lowered-same : (a k : ℕ) → k ≤ 1148 → round binary64 false (a * (2 ^ 52 * 2 ^ (1149 - k - 1))) (2 ^ 126 * 2 ^ 1074) ≡ round binary64 false (a * 1) (2 ^ k)
lowered-same a k h =
    let place : 1149 - k - 1 ≡ 1148 - k = omega (arith, h) in
    let whole : 1148 - k + k ≡ 1148 = omega (arith, h) in
    let split : 2 ^ (1148 - k) * 2 ^ k ≡ 2 ^ 1148 = sym (pow-add 2 (1148 - k) k) ∙ ap (λ (z : ℕ). 2 ^ z) whole in
    rw place (round_same binary64 false (a * (2 ^ 52 * 2 ^ (1148 - k))) (2 ^ 126 * 2 ^ 1074) (a * 1) (2 ^ k) (mul-pos (pow_pos 126) (pow_pos 1074)) (pow_pos k) (down-cross a (2 ^ 52) (2 ^ (1148 - k)) (2 ^ k) (2 ^ 126 * 2 ^ 1074) (ap (λ (z : ℕ). 2 ^ 52 * z) split)))

-- from 2^1024 on
no-more : (r : Float) → T (le (inf false) r) → r ≡ inf false
unfolding le
no-more nan h = absurd h
no-more (inf true) h = absurd h
no-more (inf false) h = refl
no-more (fin s m e) h = absurd h

past : round binary64 false (2 ^ 1024) 1 ≡ inf false
unfolding round
past = refl

reaches : (a b c : ℕ) → 0 < a → 0 < c → b * 1 ≤ a * (b * c) * 1
reaches a b c p q =
    let one : 1 ≤ a * c = mul-pos p q in
    let more : b * 1 ≤ b * (a * c) = mul-le-mul_left b one in
    le_trans more (le_of_eq (simp (mul-one, mul_left_comm)))

pub infinite : (a k : ℕ) → 0 < a → 1024 ≤ k → round binary64 false (a * 2 ^ k) 1 ≡ inf false
infinite a k some h =
    let whole : 1024 + (k - 1024) ≡ k = omega (arith, h) in
    let split : 2 ^ k ≡ 2 ^ 1024 * 2 ^ (k - 1024) = ap (λ (z : ℕ). 2 ^ z) (sym whole) ∙ pow-add 2 1024 (k - 1024) in
    no-more (round binary64 false (a * 2 ^ k) 1) (subst (λ (x : Float). T (le x (round binary64 false (a * 2 ^ k) 1))) past (round_mono binary64 (2 ^ 1024) 1 (a * 2 ^ k) 1 (lit< tt) (lit< tt) (rw split (reaches a (2 ^ 1024) (2 ^ (k - 1024)) some (pow_pos (k - 1024))))))

-- ---- below all doubles

none : round binary64 false 1 (2 ^ 1076) ≡ zero_float
unfolding round
none = refl

low-inf : lt (inf true) (of_bits binary64 1) ≡ true
unfolding lt of_bits
low-inf = refl

pub least-real : Real binary64 (of_bits binary64 1)
unfolding of_bits fits
least-real = record { fit = tt; fini = tt }

pub zero-real : Real binary64 zero_float
unfolding fits
zero-real = record { fit = tt; fini = tt }

pub least-above : over binary64 (of_bits binary64 1) ≤ over binary64 zero_float → ⊥
unfolding over of_bits mag sgn
least-above h = absurd (not-suc-le-zero h)

low-lt : (r : Float) → T (fits binary64 r) → T (le r zero_float) → lt r (of_bits binary64 1) ≡ true
unfolding le
low-lt nan f h = absurd h
low-lt (inf true) f h = low-inf
low-lt (inf false) f h = absurd h
low-lt (fin s m e) f h = go (lt (fin s m e) (of_bits binary64 1)) refl
  where
    go : (b : Bool) → lt (fin s m e) (of_bits binary64 1) ≡ b → b ≡ true
    go true g = refl
    go false g =
        let R : Real binary64 (fin s m e) = record { fit = f; fini = tt } in
        let down = no→Le binary64 (fin s m e) (of_bits binary64 1) R least-real g in
        let up = le→Le binary64 (fin s m e) zero_float R zero-real h in
        absurd (least-above (le_trans down.rise up.rise))

below : (a b c x : ℕ) → a < b → 0 < x → a * 1 * c ≤ 1 * (b * c * x)
below a b c x h q =
    let one : a * c ≤ b * c = mul-le-mul_right c (le_of_lt h) in
    let more : b * c * 1 ≤ b * c * x = mul-le-mul_left (b * c) q in
    rw (mul-one a, one-mul (b * c * x)) (le_trans one (rw (mul-one (b * c)) at more))

pub tiny : (a k : ℕ) → a < 2 ^ 32 → 1149 ≤ k → lt (round binary64 false (a * 1) (2 ^ k)) (of_bits binary64 1) ≡ true
tiny a k h g =
    let whole : 1108 + (k - 1108) ≡ k = omega (arith, g) in
    let split : 2 ^ k ≡ 2 ^ 1108 * 2 ^ (k - 1108) = ap (λ (z : ℕ). 2 ^ z) (sym whole) ∙ pow-add 2 1108 (k - 1108) in
    let r = round binary64 false (a * 1) (2 ^ k) in
    low-lt r (round-fits binary64 false (a * 1) (2 ^ k)) (subst (λ (x : Float). T (le r x)) none (round_mono binary64 (a * 1) (2 ^ k) 1 (2 ^ 1076) (pow_pos k) (pow_pos 1076) (rw split (below a (2 ^ 32) (2 ^ 1076) (2 ^ (k - 1108)) h (pow_pos (k - 1108))))))

-- ---- by the sign of the power

pub nearest-low : (a : ℕ) (z : ℤ) → lt_z z (pos 0) ≡ true → lt_z z (negsuc 1147) ≡ false
    → round binary64 false (a * (2 ^ 52 * 2 ^ (1149 - nat_abs z - 1))) (2 ^ 126 * 2 ^ 1074) ≡ round binary64 false (a * up z) (down z)
nearest-low a (pos k) g h = absurd (not-suc-le-zero (ltb-true k 0 g))
nearest-low a (negsuc k) g h = lowered-same a (suc k) (let n : k ≤ 1147 = ltb-false 1147 k h in omega arith)

pub nearest-past : (a : ℕ) (z : ℤ) → 0 < a → lt_z z (pos 0) ≡ false → 1023 < nat_abs z → of_bits binary64 9218868437227405312 ≡ round binary64 false (a * up z) (down z)
unfolding of_bits
nearest-past a (pos k) some g h = sym (infinite a k some h)
nearest-past a (negsuc k) some g h = absurd (true≢false g)

pub nearest-high : (a : ℕ) (z : ℤ) → lt_z z (pos 0) ≡ false → round binary64 false (a * (2 ^ 52 * 2 ^ (1023 + nat_abs z - 1))) (2 ^ 1074) ≡ round binary64 false (a * up z) (down z)
nearest-high a (pos k) g = raised-same a k
nearest-high a (negsuc k) g = absurd (true≢false g)

pub tiny-lt : (a : ℕ) (z : ℤ) → a < 2 ^ 32 → lt_z z (negsuc 1147) ≡ true → lt (round binary64 false (a * up z) (down z)) (of_bits binary64 1) ≡ true
tiny-lt a (pos k) h g = absurd (false≢true g)
tiny-lt a (negsuc k) h g = tiny a (suc k) h (let n : 1147 < k = ltb-true 1147 k g in omega arith)

-- a signed number as its bits have it
pub held : (z : ℤ) → SFits w32 z → to_z w32 (of_z w32 z) ≡ z
held z h = to_z-of_z {w = w32} h

-- the program's 0.0
pub zero-is : of_bits binary64 0 ≡ zero_float
unfolding of_bits
zero-is = refl
