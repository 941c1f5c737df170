-- What a calculation uses of the exponential: weaker bounds, smaller arguments, sums of arguments, the series, and multiples of ln 2. Assumes nothing.
use mathlib.Core.Path.{◌≡◌, sym, ap, subst}
use Prim.Native.Nat.{ℕ, zero, suc, ◌+◌, ◌-◌, ◌*◌, ◌^◌, ◌≤◌, ◌<◌}
use native.Mathlib.Nat.{le_trans, le_of_eq, le_of_lt, le_refl, lt_of_le_of_lt, mul-le-mul_right, mul-le-mul_left, lt_of_mul-lt-mul_right, mul-lt-mul_of_pos_right, mul-pos, mul_assoc, mul_comm, mul_right_comm, zero-lt-suc, pow-suc, one-le-pow, zero-mul, suc-mul, le_dest, mul-sub, not-suc-le-zero, add-zero, sub-zero}
use native.Mathlib.Omega.{arith}
use lib.Dec.{lit≤, lit<}
use lib.Pow.{pow_pos}
use Rattle.fractions.specs.Frac.{Frac, frac, times, LeFrac}
use Rattle.fractions.proofs.Frac.{le-frac-trans, times-mono}
use Rattle.logarithm.proofs.Series.{whole}
use Rattle.logarithm.proofs.Bounds.{mul-pow, whole-hom, whole_pos, cancel_left, cancel_right}
use Rattle.exponential.specs.Exponential.{exp_below, exp_above, ExpAtMost, ExpAtLeast}
use Rattle.exponential.proofs.Bounds.{raise, below-pos, above-pos}
use Rattle.exponential.proofs.Series.{taylor, topped, walk-under, walk-over, taylor-hom, topped-hom}

-- ---- weaker bounds
pub at-most-le : {p q : ℕ} {v w : Frac} → 0 < v.den → LeFrac v w → ExpAtMost p q v → ExpAtMost p q w
at-most-le h l u = record { bound = λ n N. le-frac-trans h (u.bound n N) l }

pub at-least-le : {p q : ℕ} {v w : Frac} → 0 < w.den → LeFrac v w → ExpAtLeast p q w → ExpAtLeast p q v
at-least-le h l u = record { bound = λ n N. le-frac-trans h l (u.bound n N) }

-- ---- a smaller argument, in any terms
pub at-most-mono : {p q : ℕ} {w : Frac} (r s : ℕ) → 0 < q → r * q ≤ p * s → ExpAtMost p q w → ExpAtMost r s w
unfolding exp_below
at-most-mono {p} {q} {w} r s Q h u = record {
  bound = λ n N.
      le-frac-trans {x = exp_below r s n} {y = exp_below p q n} (below-pos p q Q n N)
      (record { cross = raise (n * s + r) (n * s) (n * q + p) (n * q) n (omega (arith, mul-le-mul_left n h)) }) (u.bound n N);
}

low-cross : (n p q r s : ℕ) → p * s ≤ r * q → p ≤ n * q → r ≤ n * s → n * q * (n * s - r) ≤ n * s * (n * q - p)
low-cross n p q r s h g l = rw (mul-sub (n * q) (n * s) r, mul-sub (n * s) (n * q) p) (omega (arith, mul-le-mul_left n h))

pub at-least-mono : {p q : ℕ} {w : Frac} (r s : ℕ) → 0 < q → 0 < s → p * s ≤ r * q → ExpAtLeast p q w → ExpAtLeast r s w
unfolding exp_above
at-least-mono {p} {q} {w} r s Q S h u = record {
  bound = λ n N.
      let k : p < n * q = lt_of_mul-lt-mul_right s (lt_of_le_of_lt h (rw (mul_right_comm n q s) (mul-lt-mul_of_pos_right N Q))) in
      le-frac-trans {y = exp_above p q n} {z = exp_above r s n} (above-pos p q Q n k) (u.bound n k)
      (record { cross = raise (n * q) (n * q - p) (n * s) (n * s - r) n (low-cross n p q r s h (le_of_lt k) (le_of_lt N)) });
}

-- ---- sums of arguments
module _ (q : ℕ) (Q : 0 < q) (p r : ℕ) {v w : Frac} where
  pub at-most-sum : ExpAtMost p q v → ExpAtMost r q w → ExpAtMost (p + r) q (times v w)
  unfolding exp_below
  at-most-sum u t = record {
    bound = λ n N.
        le-frac-trans {x = exp_below (p + r) q n} {y = times (exp_below p q n) (exp_below r q n)} (mul-pos (below-pos p q Q n N) (below-pos r q Q n N))
        (record { cross = rw (← mul-pow (n * q + p) (n * q + r) n, ← mul-pow (n * q) (n * q) n) (raise (n * q + (p + r)) (n * q) ((n * q + p) * (n * q + r)) (n * q * (n * q)) n (product-up (n * q) p r)) })
        (times-mono (u.bound n N) (t.bound n N));
  }
    where
      product-up : (m p r : ℕ) → (m + (p + r)) * (m * m) ≤ (m + p) * (m + r) * m
      product-up m p r = omega arith

  pub at-least-sum : ExpAtLeast p q v → ExpAtLeast r q w → ExpAtLeast (p + r) q (times v w)
  unfolding exp_above
  at-least-sum u t = record {
    bound = λ n N.
        let g : p < n * q = omega arith in
        let h : r < n * q = omega arith in
        le-frac-trans {y = times (exp_above p q n) (exp_above r q n)} {z = exp_above (p + r) q n} (mul-pos (above-pos p q Q n g) (above-pos r q Q n h)) (times-mono (u.bound n g) (t.bound n h))
        (record { cross = rw (← mul-pow (n * q) (n * q) n, ← mul-pow (n * q - p) (n * q - r) n) (raise (n * q * (n * q)) ((n * q - p) * (n * q - r)) (n * q) (n * q - (p + r)) n (product-down (n * q) p r (le_of_lt N))) });
  }
    where
      down-alg : (p r d : ℕ) → (p + r + d) * (p + r + d) * d ≤ (p + r + d) * ((r + d) * (p + d))
      down-alg p r d = omega arith

      product-down : (m p r : ℕ) → p + r ≤ m → m * m * (m - (p + r)) ≤ m * ((m - p) * (m - r))
      product-down m p r l =
          let w = le_dest l in
          let d = w.0 in
          let e : p + r + d ≡ m = w.1 in
          let e1 : m - (p + r) ≡ d = omega arith in
          let e2 : m - p ≡ r + d = omega arith in
          let e3 : m - r ≡ p + d = omega arith in
          rw (e1, e2, e3) (subst (λ (z : ℕ). z * z * d ≤ z * ((r + d) * (p + d))) e (down-alg p r d))

-- ---- the series bounds the exponential: from below, and with its last term twice from above while 2 p ≤ (j + 1) q
module _ (j p q : ℕ) where
  pub at-least-series : ExpAtLeast p q (frac (taylor j q p) (whole j q))
  unfolding exp_above
  at-least-series = record { bound = bounds }
    where
      bounds : (n : ℕ) → p < n * q → LeFrac (frac (taylor j q p) (whole j q)) (exp_above p q n)
      bounds zero h = absurd (not-suc-le-zero (rw (zero-mul q) at h))
      bounds (suc n) h =
          let e : suc n * q - p + p ≡ suc n * q = omega arith in
          let g = rw (e, taylor-hom (suc n) q p j, whole-hom (suc n) q j) at (walk-under j (suc n * q - p) p (suc n)) in
          cancel_left (suc n ^ j) (taylor j q p) (whole j q) (exp_above p q (suc n)) (one-le-pow j (suc n) (zero-lt-suc n)) (record { cross = le_trans g (le_of_eq (mul_comm _ _)) })

  pub at-most-series : 2 * p ≤ suc j * q → ExpAtMost p q (frac (topped j q p) (whole (suc j) q))
  unfolding exp_below
  at-most-series l = record { bound = bounds }
    where
      bounds : (n : ℕ) → 0 < n → LeFrac (exp_below p q n) (frac (topped j q p) (whole (suc j) q))
      bounds n N =
          let k : 2 * (n * p) ≤ suc j * (n * q) = omega (arith, mul-le-mul_left n l) in
          let g = rw (topped-hom n q p j, whole-hom n q (suc j)) at (walk-over j (n * q) p n n k (le_refl n)) in
          cancel_right (n ^ suc j) (topped j q p) (whole (suc j) q) (exp_below p q n) (one-le-pow (suc j) n N) (record { cross = g })

-- ---- a number just below the logarithm of 2, in units of 2^-46, and its multiples
abbrev pub ln2_units : ℕ
ln2_units = 48775896626291

pub at-most-step : ExpAtMost ln2_units (2 ^ 46) (frac 2 1)
unfolding topped taylor whole
at-most-step = at-most-le {v = frac (topped 20 (2 ^ 46) ln2_units) (whole 21 (2 ^ 46))} (whole_pos 21 (2 ^ 46) (pow_pos 46)) (record { cross = lit≤ tt }) (at-most-series 20 ln2_units (2 ^ 46) (lit≤ tt))

pub at-least-step : ExpAtLeast ln2_units (2 ^ 46) (frac (2 ^ 47 - 2) (2 ^ 46))
unfolding taylor whole
at-least-step = at-least-le {w = frac (taylor 20 (2 ^ 46) ln2_units) (whole 20 (2 ^ 46))} (whole_pos 20 (2 ^ 46) (pow_pos 46)) (record { cross = lit≤ tt }) (at-least-series 20 ln2_units (2 ^ 46))

pub at-most-nothing : (q : ℕ) → 0 < q → ExpAtMost 0 q (frac 1 1)
unfolding exp_below
at-most-nothing q Q = record { bound = λ n N. record { cross = omega (arith, ap (λ (z : ℕ). z ^ n) (add-zero (n * q))) } }

pub at-least-nothing : (q : ℕ) → 0 < q → ExpAtLeast 0 q (frac 1 1)
unfolding exp_above
at-least-nothing q Q = record { bound = λ n N. record { cross = omega (arith, ap (λ (z : ℕ). z ^ n) (sub-zero (n * q))) } }

pub at-most-steps : (k : ℕ) → ExpAtMost (k * ln2_units) (2 ^ 46) (frac (2 ^ k) 1)
at-most-steps zero = at-most-nothing (2 ^ 46) (pow_pos 46)
at-most-steps (suc k) = rw (suc-mul k ln2_units, pow-suc 2 k) (at-most-sum (2 ^ 46) (pow_pos 46) (k * ln2_units) ln2_units (at-most-steps k) at-most-step)

steps-alg : (k d P : ℕ) → k + 1 + d ≡ 2 ^ 46 → P * 2 * d * (2 ^ 46 * 2 ^ 46) ≤ P * (d + 1) * (2 ^ 47 - 2) * 2 ^ 46
steps-alg k d P e =
    let g : 2 * d + 2 ≤ 2 ^ 47 = omega arith in
    let small : P * 2 * d * 2 ^ 46 ≤ P * (d + 1) * (2 ^ 47 - 2) = omega (arith, mul-le-mul_left P g) in
    le_trans (le_of_eq (sym (mul_assoc (P * 2 * d) (2 ^ 46) (2 ^ 46)))) (mul-le-mul_right (2 ^ 46) small)

pub at-least-steps : (k : ℕ) → k ≤ 2 ^ 46 → ExpAtLeast (k * ln2_units) (2 ^ 46) (frac (2 ^ k * (2 ^ 46 - k)) (2 ^ 46))
at-least-steps zero l = at-least-le {w = frac 1 1} (lit< tt) (record { cross = lit≤ tt }) (at-least-nothing (2 ^ 46) (pow_pos 46))
at-least-steps (suc k) l =
    let d = 2 ^ 46 - suc k in
    let e : k + 1 + d ≡ 2 ^ 46 = omega arith in
    let f : 2 ^ 46 - k ≡ d + 1 = omega arith in
    rw (suc-mul k ln2_units, pow-suc 2 k) (at-least-le {w = times (frac (2 ^ k * (2 ^ 46 - k)) (2 ^ 46)) (frac (2 ^ 47 - 2) (2 ^ 46))} (lit< tt) (record { cross = rw f (steps-alg k d (2 ^ k) e) }) (at-least-sum (2 ^ 46) (pow_pos 46) (k * ln2_units) ln2_units (at-least-steps k (omega arith)) at-least-step))

-- one unit more
pub at-most-unit : ExpAtMost 1 (2 ^ 46) (frac (2 ^ 46 + 2) (2 ^ 46))
unfolding topped taylor whole
at-most-unit = at-most-le {v = frac (topped 1 (2 ^ 46) 1) (whole 2 (2 ^ 46))} (whole_pos 2 (2 ^ 46) (pow_pos 46)) (record { cross = lit≤ tt }) (at-most-series 1 1 (2 ^ 46) (lit≤ tt))
