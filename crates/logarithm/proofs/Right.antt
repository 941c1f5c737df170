-- The figure lies near the logarithm: of a ratio, and of a double from 2^-60 to 2^10. Assumes nothing.
use mathlib.Core.Path.{◌≡◌, refl, sym}
use mathlib.Core.Bool.{Bool, true, false, cond, not, ◌&&◌, true≢false}
use Prim.Native.Nat.{ℕ, ◌+◌, ◌-◌, ◌*◌, ◌/◌, ◌%◌, ◌^◌, ◌≤◌, ◌<◌}
use native.Mathlib.Nat.{le_trans, le_of_suc-le-suc, mod-lt, mul-pos, mul-le-mul_right, div-mul-le_self, lt-div-mul-add, le-div_iff_mul-le, div-le_of_le-mul}
use native.Mathlib.Omega.{arith}
use lib.Dec.{T, ltb, ltb→lt, nltb→le, lit≤, lit<}
use lib.ListN.{get_or}
use lib.Pow.{pow_pos}
use lib.Ieee.{Float, binary64, to_bits, neg, le}
use Rattle.fractions.specs.Frac.{frac, LeFrac}
use Rattle.fractions.proofs.Frac.{le-frac-trans}
use Rattle.logarithm.specs.Logarithm.{upper, LnAtMost, LnAtLeast}
use Rattle.logarithm.specs.Figure.{ln_series, steps, ln2, ln_reduced, ln_ratio, fixed, ln_of_fields, ln_of}
use Rattle.logarithm.specs.Near.{LnOf, least_argument, most_argument, has_logarithm, Logarithms}
use Rattle.logarithm.proofs.Sums.{upper_pos, ln-most}
use Rattle.logarithm.proofs.Bounds.{at-least-le, at-most-le, at-least-ratio, at-most-ratio, at-least-sum, at-most-sum, at-least-double, at-most-double}
use Rattle.logarithm.proofs.Steps.{LnBetween, step_right, series-right, series-small, quotient-small}
use Rattle.logarithm.proofs.Double.{reads, in-positive, ln-over, ln-under}

-- w / 2^46 ≤ ln (a / b) ≤ (w + 2) / 2^46
pub record LnUnits (a b w : ℕ) : Type 0 where
  pub least : LnAtLeast a b (frac w (2 ^ 46))
  pub most : LnAtMost a b (frac (w + 2) (2 ^ 46))
  pub small : w < 2 ^ 53

-- an entry of the table is at most 1
pub step_small : (c : ℕ) → 32 ≤ c → c ≤ 64 → get_or steps (c - 32) 0 ≤ 2 ^ 54
step_small c l h =
    let g : LeFrac (frac (get_or steps (c - 32) 0) (2 ^ 54)) (frac (c - 32) 32) =
    le-frac-trans {y = upper c 32 1} (upper_pos c 32 1 (lit< tt)) ((step_right c l h).least.bound 1 (lit< tt)) (ln-most c 32 1 (lit< tt) (lit< tt)) in
    omega (arith, g.cross)

-- ---- with k doublings, cut to units of 2^-46
cut : (a b k w : ℕ) → 0 < b → b ≤ a → k ≤ 60 → w ≤ 9 * 2 ^ 54 → LnAtLeast a b (frac w (2 ^ 54)) → LnAtMost a b (frac (w + 160) (2 ^ 54)) → LnUnits (2 ^ k * a) b ((w + k * ln2) / 256)
cut a b k w B h K W u v = record {
  least = at-least-le {q = frac (w + k * ln2) (2 ^ 54)} (pow_pos 54) (record { cross = omega arith }) (at-least-sum (2 ^ 54) (pow_pos 54) h more u (at-least-double k a (omega arith)));
  most = at-most-le {p = frac (w + 160 + k * (ln2 + 1)) (2 ^ 54)} (pow_pos 54) (record { cross = omega arith }) (at-most-sum (2 ^ 54) (pow_pos 54) h more v (at-most-double k a (omega arith)));
  small = omega arith;
}
  where
    more : a ≤ 2 ^ k * a
    more = omega (arith, mul-le-mul_right a (pow_pos k))

-- ---- of a ratio: c / 32, and the rest
module _ (a b : ℕ) (B : 0 < b) (h : b ≤ a) (l : a ≤ 2 * b) where
  c : ℕ
  c = 32 * a / b

  c_under : c * b ≤ 32 * a
  unfolding c
  c_under = div-mul-le_self (32 * a) b

  c_over : 32 * a < c * b + b
  unfolding c
  c_over = lt-div-mul-add B

  c-least : 32 ≤ c
  unfolding c
  c-least = (le-div_iff_mul-le {k = b} {x = 32} {y = 32 * a} B).1 (omega arith)

  c-most : c ≤ 64
  unfolding c
  c-most = div-le_of_le-mul b (omega arith)

  -- 33 (32 a − c b) ≤ 32 a
  rest-small : 33 * (32 * a - c * b) ≤ 32 * a
  rest-small = omega (arith, c_under, c_over, mul-le-mul_right b c-least)

  c-positive : 0 < c * b
  c-positive = mul-pos (omega (arith, c-least)) B

  rest-right : LnBetween (32 * a) (c * b) (ln_series ((32 * a - c * b) * 2 ^ 54 / (32 * a))) 159
  rest-right = series-right (32 * a) (c * b) c-positive c_under rest-small

  -- c / 32 is (c b) / (32 b)
  same : c * (32 * b) ≡ c * b * 32
  same = omega arith

  step-least : LnAtLeast (c * b) (32 * b) (frac (get_or steps (c - 32) 0) (2 ^ 54))
  step-least = at-least-ratio (c * b) (32 * b) (lit< tt) (omega arith) same (step_right c c-least c-most).least

  step-most : LnAtMost (c * b) (32 * b) (frac (get_or steps (c - 32) 0 + 1) (2 ^ 54))
  step-most = at-most-ratio (c * b) (32 * b) (lit< tt) (omega arith) same (step_right c c-least c-most).most

  c-above : 32 * b ≤ c * b
  c-above = mul-le-mul_right b c-least

  -- a / b is (32 a) / (32 b)
  whole-least : LnAtLeast (32 * a) (32 * b) (frac (get_or steps (c - 32) 0 + ln_series ((32 * a - c * b) * 2 ^ 54 / (32 * a))) (2 ^ 54))
  whole-least = at-least-sum (2 ^ 54) (pow_pos 54) c-above c_under step-least rest-right.least

  whole-most : LnAtMost (32 * a) (32 * b) (frac (get_or steps (c - 32) 0 + 1 + (ln_series ((32 * a - c * b) * 2 ^ 54 / (32 * a)) + 159)) (2 ^ 54))
  whole-most = at-most-sum (2 ^ 54) (pow_pos 54) c-above c_under step-most rest-right.most

  least-of : LnAtLeast a b (frac (get_or steps (c - 32) 0 + ln_series ((32 * a - c * b) * 2 ^ 54 / (32 * a))) (2 ^ 54))
  least-of = at-least-ratio a b (omega arith) B (omega arith) whole-least

  most-of : LnAtMost a b (frac (get_or steps (c - 32) 0 + ln_series ((32 * a - c * b) * 2 ^ 54 / (32 * a)) + 160) (2 ^ 54))
  most-of = at-most-ratio a b (omega arith) B (omega arith) (at-most-le {q = frac (get_or steps (c - 32) 0 + ln_series ((32 * a - c * b) * 2 ^ 54 / (32 * a)) + 160) (2 ^ 54)} (pow_pos 54) (record { cross = omega arith }) whole-most)

  u-small : (32 * a - c * b) * 2 ^ 54 / (32 * a) ≤ 2 ^ 53
  u-small = le_trans (quotient-small (32 * a) (32 * a - c * b) ((32 * a - c * b) * 2 ^ 54 / (32 * a)) (omega arith) rest-small (div-mul-le_self ((32 * a - c * b) * 2 ^ 54) (32 * a))) (lit≤ tt)

  total-small : get_or steps (c - 32) 0 + ln_series ((32 * a - c * b) * 2 ^ 54 / (32 * a)) ≤ 9 * 2 ^ 54
  total-small = nine (step_small c c-least c-most) (series-small ((32 * a - c * b) * 2 ^ 54 / (32 * a)) u-small)
    where
      nine : {x y : ℕ} → x ≤ 2 ^ 54 → y ≤ 8 * 2 ^ 54 → x + y ≤ 9 * 2 ^ 54
      nine h k = omega arith

  in-units : (k : ℕ) → k ≤ 60 → LnUnits (2 ^ k * a) b ((get_or steps (c - 32) 0 + ln_series ((32 * a - c * b) * 2 ^ 54 / (32 * a)) + k * ln2) / 256)
  in-units k K = cut a b k (get_or steps (c - 32) 0 + ln_series ((32 * a - c * b) * 2 ^ 54 / (32 * a))) B h K total-small least-of most-of

  pub ratio-right : (k : ℕ) → k ≤ 60 → LnUnits (2 ^ k * a) b (ln_ratio a b k)
  unfolding ln_ratio ln_reduced c
  ratio-right k K = in-units k K

-- ---- of a double
both : (a b : Bool) → (a && b) ≡ true → (a ≡ true) × (b ≡ true)
both true b e = (refl, e)
both false b e = absurd (true≢false (sym e))

-- the two ends
pub ends : (x : Float) → has_logarithm x ≡ true → (le least_argument x ≡ true) × (le x most_argument ≡ true)
ends x e = both (le least_argument x) (le x most_argument) e

pub ln-right : Logarithms
unfolding ln_of ln_of_fields
ln-right x f e =
    go (ltb (to_bits binary64 x / 2 ^ 52) 1023) (ltb→lt (to_bits binary64 x / 2 ^ 52) 1023) (nltb→le (to_bits binary64 x / 2 ^ 52) 1023)
  where
    p : le least_argument x ≡ true
    p = (ends x e).0

    q : le x most_argument ≡ true
    q = (ends x e).1

    go : (t : Bool) → (T t → to_bits binary64 x / 2 ^ 52 < 1023) → (T (not t) → 1023 ≤ to_bits binary64 x / 2 ^ 52)
        → LnOf x (cond t (neg (fixed (ln_ratio (2 ^ 53) (to_bits binary64 x % 2 ^ 52 + 2 ^ 52) (1022 - to_bits binary64 x / 2 ^ 52)))) (fixed (ln_ratio (to_bits binary64 x % 2 ^ 52 + 2 ^ 52) (2 ^ 52) (to_bits binary64 x / 2 ^ 52 - 1023))))
    go true h k =
        let b = to_bits binary64 x in
        let r = reads x f p q in
        let l : b / 2 ^ 52 < 1023 = h tt in
        let m : b % 2 ^ 52 < 2 ^ 52 = mod-lt b (lit< tt) in
        let u = ratio-right (2 ^ 53) (b % 2 ^ 52 + 2 ^ 52) (omega arith) (omega arith) (omega arith) (1022 - b / 2 ^ 52) (omega (arith, r.from)) in
        ln-under x b (ln_ratio (2 ^ 53) (b % 2 ^ 52 + 2 ^ 52) (1022 - b / 2 ^ 52)) r (in-positive x p q) u.small (le_of_suc-le-suc l) u.least u.most
    go false h k =
        let b = to_bits binary64 x in
        let r = reads x f p q in
        let l : 1023 ≤ b / 2 ^ 52 = k tt in
        let m : b % 2 ^ 52 < 2 ^ 52 = mod-lt b (lit< tt) in
        let u = ratio-right (b % 2 ^ 52 + 2 ^ 52) (2 ^ 52) (lit< tt) (omega arith) (omega arith) (b / 2 ^ 52 - 1023) (omega (arith, r.upto)) in
        ln-over x b (ln_ratio (b % 2 ^ 52 + 2 ^ 52) (2 ^ 52) (b / 2 ^ 52 - 1023)) r (in-positive x p q) u.small l u.least u.most
