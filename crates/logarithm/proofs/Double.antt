-- A double's bits and its value, from 2^-60 to 2^10; whole numbers of units of 2^-46 as doubles. Assumes nothing.
use mathlib.Core.Path.{◌≡◌, refl, sym, ap, ◌∙◌, subst}
use mathlib.Core.Bool.{Bool, true, false, not, true≢false, cond}
use Prim.Native.Nat.{ℕ, zero, suc, ◌+◌, ◌-◌, ◌*◌, ◌/◌, ◌%◌, ◌^◌, ◌≤◌, ◌<◌}
use native.Mathlib.Nat.{le_trans, le_of_eq, le_of_lt, lt_of_lt_of_le, lt_of_le_of_lt, not-le_of_lt, lt_of_not-le, le_of_suc-le-suc, mul-le-mul, mul-le-mul_right, mul-le-mul_left, mul-lt-mul_of_pos_right, le_of_mul-le-mul_right, le_of_mul-le-mul_left, eq_of_mul-eq-mul_right, mul-pos, mul-one, one-mul, mul_assoc, mul_comm, mod-lt, mod-eq_of_lt}
use native.Mathlib.Omega.{arith}
use lib.IntN.{pos}
use lib.Dec.{T, leb, eqb, ltb→lt, nleb→lt, le→leb, lit≤, lit<}
use lib.Pow.{pow_pos, pow_mono, pow-add}
use lib.Ieee.{Float, nan, inf, fin, binary64, ones, odd, up, down, round, div, neg, in_float, le, fits, of_fields, of_bits, to_bits}
use lib.Ieee.Bits.{of_bits-to_bits}
use lib.Ieee.Fits.{down_pos, up_pos}
use lib.Ieee.Scale.{round_same}
use lib.Ieee.Back.{round_whole}
use lib.Ieee.Exact.{HasValue, odd_sign, round_exact}
use lib.Ieee.Positive.{num, den, den_pos, positive, between, values_of_le, value→cross}
use Rattle.fractions.specs.Frac.{frac}
use Rattle.logarithm.specs.Logarithm.{LnAtMost, LnAtLeast}
use Rattle.logarithm.specs.Figure.{fixed}
use Rattle.logarithm.specs.Near.{LnOf, least_argument, most_argument}
use Rattle.logarithm.proofs.Bounds.{at-least-ratio, at-most-ratio}
use Rattle.logarithm.proofs.Near.{float-over, float-under, value-finite}

num_pos : (x : Float) → T (positive x) → 0 < num x
num_pos nan p = absurd p
num_pos (inf s) p = absurd p
num_pos (fin true m e) p = absurd p
num_pos (fin false m e) p = mul-pos (ltb→lt 0 m p) (up_pos e)

sign_of : (x : Float) (s : Bool) (a c : ℕ) → T (positive x) → HasValue x s a c → s ≡ false
sign_of nan s a c p v = absurd p
sign_of (inf t) s a c p v = absurd p
sign_of (fin true m e) s a c p v = absurd p
sign_of (fin false m e) s a c p v = sym v.0

-- the value of the fields of a positive number
abbrev Fields : Float → Bool → ℕ → Type 0
Fields x s a = (s ≡ false) × HasValue x false a (2 ^ 1074)

odd-fields : (d : ℕ) (s : Bool) (q k : ℕ) → T (positive (odd d s q k 1074)) → Fields (odd d s q k 1074) s (q * 2 ^ k)
odd-fields d s q k p =
    let v = odd_sign d s q k 1074 in
    let e = sign_of (odd d s q k 1074) s (q * 2 ^ k) (2 ^ 1074) p v in
    (e, subst (λ (t : Bool). HasValue (odd d s q k 1074) t (q * 2 ^ k) (2 ^ 1074)) e v)

small-fields : (s : Bool) (t : ℕ) → T (positive (of_fields binary64 s 0 t)) → Fields (of_fields binary64 s 0 t) s (t * 2 ^ 0)
unfolding of_fields
small-fields s t p = odd-fields 53 s t 0 p

normal-fields : (s : Bool) (x t : ℕ) → T (positive (of_fields binary64 s (suc x) t)) → Fields (of_fields binary64 s (suc x) t) s ((2 ^ 52 + t) * 2 ^ x)
unfolding of_fields
normal-fields s x t p = go (eqb (suc x) (ones binary64)) (eqb t 0) p
  where
    go : (b c : Bool) → T (positive (cond b (cond c (inf s) nan) (odd 53 s (2 ^ 52 + t) x 1074))) → Fields (cond b (cond c (inf s) nan) (odd 53 s (2 ^ 52 + t) x 1074)) s ((2 ^ 52 + t) * 2 ^ x)
    go true true p = absurd p
    go true false p = absurd p
    go false c p = odd-fields 53 s (2 ^ 52 + t) x p

least-positive : T (positive least_argument)
unfolding least_argument
least-positive = tt

most-positive : T (positive most_argument)
unfolding most_argument
most-positive = tt

least-value : HasValue least_argument false 1 (2 ^ 60)
unfolding least_argument
least-value = (refl, refl)

most-value : HasValue most_argument false (2 ^ 10) 1
unfolding most_argument
most-value = (refl, refl)

module _ (x : Float) (l : le least_argument x ≡ true) (h : le x most_argument ≡ true) where
  pub in-positive : T (positive x)
  in-positive = between least_argument x most_argument least-positive most-positive (rw l tt) (rw h tt)

  from-least : (a : ℕ) → HasValue x false a (2 ^ 1074) → 2 ^ 1074 ≤ a * 2 ^ 60
  from-least a v = le_trans (le_of_eq (sym (one-mul (2 ^ 1074)))) (values_of_le least_argument x 1 (2 ^ 60) a (2 ^ 1074) least-positive in-positive least-value v (rw l tt))

  to-most : (a : ℕ) → HasValue x false a (2 ^ 1074) → a ≤ 2 ^ 1084
  to-most a v = le_trans (le_of_eq (sym (mul-one a))) (values_of_le x most_argument a (2 ^ 1074) (2 ^ 10) 1 in-positive most-positive v most-value (rw h tt))

  -- too few digits
  not-small : (t : ℕ) → t < 2 ^ 52 → HasValue x false (t * 2 ^ 0) (2 ^ 1074) → ⊥
  not-small t s v =
      let g : t * 2 ^ 0 * 2 ^ 60 ≤ 2 ^ 52 * 2 ^ 0 * 2 ^ 60 = mul-le-mul_right (2 ^ 60) (mul-le-mul_right (2 ^ 0) (le_of_lt s)) in
      not-le_of_lt (lt_of_le_of_lt g (lit< tt)) (from-least (t * 2 ^ 0) v)

  exponent-low : (t y : ℕ) → t < 2 ^ 52 → HasValue x false ((2 ^ 52 + t) * 2 ^ y) (2 ^ 1074) → 961 ≤ y
  exponent-low t y s v = lt_of_not-le (λ (g : y ≤ 960).
      not-le_of_lt (lt_of_le_of_lt (mul-le-mul_right (2 ^ 60) (mul-le-mul {n₂ = 2 ^ 53} {m₂ = 2 ^ 960} (omega arith) (pow_mono g))) (lit< tt)) (from-least ((2 ^ 52 + t) * 2 ^ y) v))

  exponent-high : (t y : ℕ) → HasValue x false ((2 ^ 52 + t) * 2 ^ y) (2 ^ 1074) → y ≤ 1032
  exponent-high t y v = le_of_suc-le-suc (lt_of_not-le (λ (g : 1033 ≤ y).
      not-le_of_lt (lt_of_lt_of_le (lit< {m = 2 ^ 1084} {n = 2 ^ 52 * 2 ^ 1033} tt) (mul-le-mul {n₁ = 2 ^ 52} {m₁ = 2 ^ 1033} (omega arith) (pow_mono g))) (to-most ((2 ^ 52 + t) * 2 ^ y) v)))

  pub record Told (s : Bool) (y t : ℕ) : Type 0 where
    pub sign : s ≡ false
    pub from : 962 ≤ y
    pub upto : y ≤ 1033
    pub value : HasValue x false ((2 ^ 52 + t) * 2 ^ (y - 1)) (2 ^ 1074)

  told : (s : Bool) (y t : ℕ) → t < 2 ^ 52 → of_fields binary64 s y t ≡ x → Told s y t
  told s zero t m e =
      let f = small-fields s t (rw e in-positive) in
      absurd (not-small t m (subst (λ (z : Float). HasValue z false (t * 2 ^ 0) (2 ^ 1074)) e f.1))
  told s (suc y) t m e =
      let f = normal-fields s y t (rw e in-positive) in
      let v : HasValue x false ((2 ^ 52 + t) * 2 ^ y) (2 ^ 1074) = subst (λ (z : Float). HasValue z false ((2 ^ 52 + t) * 2 ^ y) (2 ^ 1074)) e f.1 in
      record { sign = f.0; from = omega (arith, exponent-low t y m v); upto = omega (arith, exponent-high t y v); value = rw (sym (pre y)) at v }
    where
      pre : (y : ℕ) → suc y - 1 ≡ y
      pre y = omega arith

-- ---- what the bits of x say
pub record Read (x : Float) (b : ℕ) : Type 0 where
  pub from : 962 ≤ b / 2 ^ 52
  pub upto : b / 2 ^ 52 ≤ 1033
  pub value : num x * 2 ^ 1074 ≡ (2 ^ 52 + b % 2 ^ 52) * 2 ^ (b / 2 ^ 52 - 1) * den x

T_false : (b : Bool) → b ≡ false → T (not b)
T_false true e = absurd (true≢false e)
T_false false e = tt

pub reads : (x : Float) → T (fits binary64 x) → le least_argument x ≡ true → le x most_argument ≡ true → Read x (to_bits binary64 x)
unfolding of_bits
reads x f l h =
    let b = to_bits binary64 x in
    let w = told x l h (leb (2 ^ 63) b) (b % 2 ^ 63 / 2 ^ 52) (b % 2 ^ 52) (mod-lt b (pow_pos 52)) (of_bits-to_bits binary64 x f) in
    let e : b % 2 ^ 63 ≡ b = mod-eq_of_lt (nleb→lt (2 ^ 63) b (T_false (leb (2 ^ 63) b) w.sign)) in
    record {
      from = subst (λ (z : ℕ). 962 ≤ z / 2 ^ 52) e w.from;
      upto = subst (λ (z : ℕ). z / 2 ^ 52 ≤ 1033) e w.upto;
      value = subst (λ (z : ℕ). num x * 2 ^ 1074 ≡ (2 ^ 52 + b % 2 ^ 52) * 2 ^ (z / 2 ^ 52 - 1) * den x) e (value→cross x ((2 ^ 52 + b % 2 ^ 52) * 2 ^ (b % 2 ^ 63 / 2 ^ 52 - 1)) (2 ^ 1074) w.value);
    }

-- ---- the ratio that the logarithm is taken of
cancel : (n d m s p q : ℕ) → 0 < s → n * (s * q) ≡ m * (s * p) * d → p * m * d ≡ n * q
cancel n d m s p q S e = eq_of_mul-eq-mul_right s S (p * m * d) (n * q) (omega arith)

cancel-below : (n d m s t p q : ℕ) → 0 < s → t * p ≡ s → n * (s * q) ≡ m * t * d → p * q * n ≡ d * m
cancel-below n d m s t p q S h e = eq_of_mul-eq-mul_right s S (p * q * n) (d * m) (omega (arith, ap (λ (z : ℕ). p * z) e, ap (λ (z : ℕ). m * d * z) h))

module _ (x : Float) (b : ℕ) (r : Read x b) where
  pub ratio-over : 1023 ≤ b / 2 ^ 52 → 2 ^ (b / 2 ^ 52 - 1023) * (b % 2 ^ 52 + 2 ^ 52) * den x ≡ num x * 2 ^ 52
  ratio-over h =
      let k = b / 2 ^ 52 - 1023 in
      let e : b / 2 ^ 52 - 1 ≡ 1022 + k = omega arith in
      let m : 2 ^ 52 + b % 2 ^ 52 ≡ b % 2 ^ 52 + 2 ^ 52 = omega arith in
      cancel (num x) (den x) (b % 2 ^ 52 + 2 ^ 52) (2 ^ 1022) (2 ^ k) (2 ^ 52) (pow_pos 1022)
      (rw (e, pow-add 2 1022 k, m) at r.value)

  pub ratio-under : b / 2 ^ 52 ≤ 1022 → 2 ^ (1022 - b / 2 ^ 52) * 2 ^ 53 * num x ≡ den x * (b % 2 ^ 52 + 2 ^ 52)
  ratio-under h =
      let k = 1022 - b / 2 ^ 52 in
      let e : b / 2 ^ 52 - 1 + k ≡ 1021 = omega (arith, r.from) in
      let m : 2 ^ 52 + b % 2 ^ 52 ≡ b % 2 ^ 52 + 2 ^ 52 = omega arith in
      cancel-below (num x) (den x) (b % 2 ^ 52 + 2 ^ 52) (2 ^ 1021) (2 ^ (b / 2 ^ 52 - 1)) (2 ^ k) (2 ^ 53) (pow_pos 1021)
      (sym (pow-add 2 (b / 2 ^ 52 - 1) k) ∙ ap (λ (z : ℕ). 2 ^ z) e) (rw m at r.value)

-- ---- a whole number below 2^53 over 2^46 is held
abbrev unit : Float
unit = fin false 1 (pos 46)

quotient-value : (y : Float) (t : ℕ) → t < 2 ^ 53 → HasValue y false t 1 → HasValue (div binary64 y unit) false t (2 ^ 46)
unfolding div
quotient-value nan t l v = absurd v
quotient-value (inf s) t l v = absurd v
quotient-value (fin true m e) t l v = absurd (true≢false v.0)
quotient-value (fin false m e) t l v =
    let h : m * up e * 1 * 2 ^ 46 ≡ t * (1 * 2 ^ 46 * down e) = ap (λ (z : ℕ). z * 2 ^ 46) v.1 ∙ omega arith in
    subst (λ (z : Float). HasValue z false t (2 ^ 46)) (sym (round_same binary64 false (m * up e * 1) (1 * 2 ^ 46 * down e) t (2 ^ 46) (mul-pos (lit< tt) (down_pos e)) (pow_pos 46) h))
    (round_exact binary64 false t (2 ^ 46) t 1028 (pow_pos 46) l (lt_of_lt_of_le (mul-lt-mul_of_pos_right l (pow_pos 1028)) (lit≤ tt)) (sym (mul_assoc t (2 ^ 1028) (2 ^ 46))))

neg_value : (y : Float) (a c : ℕ) → HasValue y false a c → HasValue (neg y) true a c
unfolding neg
neg_value nan a c v = v
neg_value (inf s) a c v = v
neg_value (fin true m e) a c v = absurd (true≢false v.0)
neg_value (fin false m e) a c v = (refl, v.1)

pub fixed-value : (t : ℕ) → t < 2 ^ 53 → HasValue (fixed t) false t (2 ^ 46)
unfolding fixed
fixed-value t l = quotient-value (round binary64 false t 1) t l (round_whole binary64 false t (le_of_lt l))

module _ (x : Float) (b t : ℕ) (r : Read x b) (X : T (positive x)) (l : t < 2 ^ 53) where
  pub ln-over : 1023 ≤ b / 2 ^ 52 → LnAtLeast (2 ^ (b / 2 ^ 52 - 1023) * (b % 2 ^ 52 + 2 ^ 52)) (2 ^ 52) (frac t (2 ^ 46)) → LnAtMost (2 ^ (b / 2 ^ 52 - 1023) * (b % 2 ^ 52 + 2 ^ 52)) (2 ^ 52) (frac (t + 2) (2 ^ 46)) → LnOf x (fixed t)
  ln-over h u v =
      let k = b / 2 ^ 52 - 1023 in
      let m = b % 2 ^ 52 + 2 ^ 52 in
      let e : 2 ^ k * m * den x ≡ num x * 2 ^ 52 = ratio-over x b r h in
      let g : den x ≤ num x = le_of_mul-le-mul_right {k = 2 ^ 52} (omega (arith, mul-le-mul_right (den x) (mul-le-mul {n₁ = 1} {m₁ = 2 ^ 52} {n₂ = 2 ^ k} {m₂ = m} (pow_pos k) (omega arith)))) (pow_pos 52) in
      let f = fixed-value t l in
      record {
        whole = value-finite (fixed t) false t (2 ^ 46) f;
        near = float-over (num x) (den x) t g (at-least-ratio (num x) (den x) (pow_pos 52) (den_pos x) e u) (at-most-ratio (num x) (den x) (pow_pos 52) (den_pos x) e v) (fixed t) f;
      }

  pub ln-under : b / 2 ^ 52 ≤ 1022 → LnAtLeast (2 ^ (1022 - b / 2 ^ 52) * 2 ^ 53) (b % 2 ^ 52 + 2 ^ 52) (frac t (2 ^ 46)) → LnAtMost (2 ^ (1022 - b / 2 ^ 52) * 2 ^ 53) (b % 2 ^ 52 + 2 ^ 52) (frac (t + 2) (2 ^ 46)) → LnOf x (neg (fixed t))
  ln-under h u v =
      let k = 1022 - b / 2 ^ 52 in
      let m = b % 2 ^ 52 + 2 ^ 52 in
      let M : 0 < m = omega arith in
      let N : 0 < num x = num_pos x X in
      let e : 2 ^ k * 2 ^ 53 * num x ≡ den x * m = ratio-under x b r h in
      let m-small : m ≤ 2 ^ k * 2 ^ 53 = le_trans {m = 1 * 2 ^ 53} (omega (arith, mod-lt b (pow_pos 52))) (mul-le-mul_right (2 ^ 53) (pow_pos k)) in
      let g : num x ≤ den x = le_of_mul-le-mul_left {k = 2 ^ k * 2 ^ 53} (le_trans (le_of_eq e) (le_trans (mul-le-mul_left (den x) m-small) (le_of_eq (mul_comm (den x) (2 ^ k * 2 ^ 53))))) (mul-pos (pow_pos k) (pow_pos 53)) in
      let f = neg_value (fixed t) t (2 ^ 46) (fixed-value t l) in
      record {
        whole = value-finite (neg (fixed t)) true t (2 ^ 46) f;
        near = float-under (den x) (num x) t g (at-least-ratio (den x) (num x) M N e u) (at-most-ratio (den x) (num x) M N e v) (neg (fixed t)) f;
      }

pub held : (t : ℕ) → t < 2 ^ 53 → T (in_float binary64 (pos t))
unfolding in_float
held t l = le→leb t (2 ^ 53) (le_of_lt l)

pub unit-is : of_bits binary64 4814348001659060224 ≡ fin false 1 (pos 46)
unfolding of_bits
unit-is = refl
