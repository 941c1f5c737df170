-- The bounds of the exponential are in order, a finer n is nearer, and they close in. Assumes nothing.
use mathlib.Core.Path.{◌≡◌, refl, sym, ap, subst}
use Prim.Native.Nat.{ℕ, zero, suc, ◌+◌, ◌-◌, ◌*◌, ◌^◌, ◌≤◌, ◌<◌}
use native.Mathlib.Nat.{le_trans, le_of_eq, le_of_lt, mul-le-mul_right, mul-le-mul_left, le_of_mul-le-mul_left, mul-pos, mul_assoc, mul_comm, zero-lt-suc, pow-suc, pow-zero, pow-le-pow_left, one-le-pow, mul-one, sub-add_cancel, le_dest, add-sub_cancel_left, mul-zero, mul-suc}
use native.Mathlib.Omega.{arith}
use lib.Pow.{pow-add}
use Rattle.fractions.specs.Frac.{frac, times, LeFrac}
use Rattle.fractions.proofs.Frac.{le-frac-trans}
use Rattle.logarithm.proofs.Series.{pow-one}
use Rattle.logarithm.proofs.Bounds.{mul-pow}
use Rattle.exponential.specs.Exponential.{exp_below, exp_above}

-- ---- Bernoulli
bern-alg : (t a p A B : ℕ) → A * (a + t * p) ≤ a * B → A ≤ B → A * a * (a + suc t * p) ≤ a * (B * (a + p))
bern-alg t a p A B h g = omega (arith, mul-le-mul_left a h, mul-le-mul_left (a * p) g)

pub bern-over : (t a p : ℕ) → a ^ t * (a + t * p) ≤ a * (a + p) ^ t
bern-over zero a p = rw (pow-zero a, pow-zero (a + p)) (omega arith)
bern-over (suc t) a p = rw (pow-suc a t, pow-suc (a + p) t) (bern-alg t a p (a ^ t) ((a + p) ^ t) (bern-over t a p) (pow-le-pow_left (omega arith) t))

bern-alg' : (t b p c A B : ℕ) → c + suc t * p ≡ b + p → A * (c + p) ≤ (b + p) * B → A * (b + p) * c ≤ (b + p) * (B * b)
bern-alg' t b p c A B e h =
    le_trans (omega (arith, mul-le-mul_left A step)) (le_trans (le_of_eq (sym (mul_assoc A (c + p) b))) (le_trans (mul-le-mul_right b h) (le_of_eq (mul_assoc (b + p) B b))))
  where
    step : (b + p) * c ≤ (c + p) * b
    step = let l : c ≤ b = omega arith in omega (arith, mul-le-mul_left p l)

pub bern-under : (t b p c : ℕ) → c + t * p ≡ b + p → (b + p) ^ t * c ≤ (b + p) * b ^ t
bern-under zero b p c e = rw (pow-zero (b + p), pow-zero b) (omega arith)
bern-under (suc t) b p c e = rw (pow-suc (b + p) t, pow-suc b t) (bern-alg' t b p c ((b + p) ^ t) (b ^ t) e (bern-under t b p (c + p) (omega arith)))

-- ---- the two bounds at one n are in order, and near
square-alg : (c d : ℕ) → d ≤ c → (c + d) * (c - d) ≤ c * c
square-alg c d h = let w = le_dest h in subst (λ (z : ℕ). (z + d) * (z - d) ≤ z * z) w.1 (rw (add-sub_cancel_left d w.0) (omega arith))

pub exp-order : (p q n : ℕ) → p ≤ n * q → LeFrac (exp_below p q n) (exp_above p q n)
unfolding exp_below exp_above
exp-order p q n h = record { cross = rw (← mul-pow (n * q + p) (n * q - p) n, ← mul-pow (n * q) (n * q) n) (pow-le-pow_left (square-alg (n * q) p h) n) }

-- ---- a finer n is nearer
pub raise : (a b c d n : ℕ) → a * d ≤ c * b → a ^ n * d ^ n ≤ c ^ n * b ^ n
raise a b c d n h = rw (← mul-pow a d n, ← mul-pow c b n) (pow-le-pow_left h n)

finer-alg : (t N p A B : ℕ) → 0 < t → A * (t * N + t * p) ≤ t * N * B → (N + p) * A ≤ B * N
finer-alg t N p A B T h = le_of_mul-le-mul_left {k = t} (omega arith) T

pow-mul : (a i j : ℕ) → a ^ (i * j) ≡ (a ^ i) ^ j
pow-mul a i zero = rw (mul-zero i, pow-zero a, pow-zero (a ^ i)) refl
pow-mul a i (suc j) = rw (mul-suc i j, pow-add a (i * j) i, pow-suc (a ^ i) j, pow-mul a i j) refl

pub below-finer : (p q n t : ℕ) → 0 < t → LeFrac (exp_below p q n) (exp_below p q (t * n))
unfolding exp_below
below-finer p q n t T = record {
  cross =
      rw (mul_assoc t n q, pow-mul (t * (n * q) + p) t n, pow-mul (t * (n * q)) t n)
      (raise (n * q + p) (n * q) ((t * (n * q) + p) ^ t) ((t * (n * q)) ^ t) n (finer-alg t (n * q) p ((t * (n * q)) ^ t) ((t * (n * q) + p) ^ t) T (bern-over t (t * (n * q)) p)));
}

finer-alg' : (t N c A B : ℕ) → 0 < t → A * (t * c) ≤ t * N * B → A * c ≤ N * B
finer-alg' t N c A B T h = le_of_mul-le-mul_left {k = t} (omega arith) T

pub above-finer : (p q n t : ℕ) → 0 < t → p ≤ n * q → LeFrac (exp_above p q (t * n)) (exp_above p q n)
unfolding exp_above
above-finer p q n t T h =
    let N = n * q in
    let c = N - p in
    let l : N ≤ t * N = omega (arith, mul-le-mul_right N T) in
    let b = t * N - p in
    let eb : b + p ≡ t * N = omega arith in
    let ec : t * c + t * p ≡ b + p = omega (arith, ap (λ (z : ℕ). t * z) (sub-add_cancel h)) in
    let g : (t * N) ^ t * (t * c) ≤ t * N * b ^ t = rw eb at (bern-under t b p (t * c) ec) in
    record {
      cross =
          rw (mul_assoc t n q, pow-mul b t n, pow-mul (t * N) t n)
          (raise ((t * N) ^ t) (b ^ t) N c n (finer-alg' t N c ((t * N) ^ t) (b ^ t) T g));
    }

-- ---- the laws
module _ (p q : ℕ) (Q : 0 < q) where
  pub below-pos : (n : ℕ) → 0 < n → 0 < (exp_below p q n).den
  unfolding exp_below
  below-pos n N = one-le-pow n (n * q) (mul-pos N Q)

  pub above-pos : (n : ℕ) → p < n * q → 0 < (exp_above p q n).den
  unfolding exp_above
  above-pos n h = one-le-pow n (n * q - p) (omega arith)

  -- every lower bound is at most every upper bound
  pub exp-between : (n m : ℕ) → 0 < n → 0 < m → p < m * q → LeFrac (exp_below p q n) (exp_above p q m)
  exp-between n m N M h =
      let l : p < m * n * q = omega (arith, mul-le-mul_right (m * q) N) in
      le-frac-trans (below-pos (m * n) (mul-pos M N)) (below-finer p q n m M)
      (le-frac-trans (above-pos (m * n) l) (exp-order p q (m * n) (le_of_lt l))
      (rw (mul_comm n m) at (above-finer p q m n N (le_of_lt h))))

  -- 1 + x ≤ exp x, and exp x ≤ 1 / (1 - x) for x below 1
  pub exp-least : (n : ℕ) → 0 < n → LeFrac (frac (q + p) q) (exp_below p q n)
  exp-least n N = rw (mul-one n) at (le-frac-trans {x = frac (q + p) q} {y = exp_below p q 1} (below-pos 1 (zero-lt-suc 0)) first (below-finer p q 1 n N))
    where
      first : LeFrac (frac (q + p) q) (exp_below p q 1)
      first = unfold exp_below in (record { cross = rw (pow-one (1 * q + p), pow-one (1 * q)) (omega arith) })

-- the bounds close in: their ratio is 1 - x^2 / n at least
near-alg : (n c P X Y Z : ℕ) → 0 < n → X * Y * (n * c) ≤ n * P * Z → X * c * Y ≤ Z * P
near-alg n c P X Y Z N h = le_of_mul-le-mul_left {k = n} (omega arith) N

square-split : (c d : ℕ) → d ≤ c → (c + d) * (c - d) + d * d ≡ c * c
square-split c d h = let w = le_dest h in subst (λ (z : ℕ). (z + d) * (z - d) + d * d ≡ z * z) w.1 (rw (add-sub_cancel_left d w.0) (omega arith))

pub exp-close : (p q n : ℕ) → 0 < n → p ≤ n * q → p * p ≤ n * q * q → LeFrac (times (exp_above p q n) (frac (n * q * q - p * p) (n * q * q))) (exp_below p q n)
unfolding exp_below exp_above
exp-close p q n N h g =
    let m = n * q in
    let b = (m + p) * (m - p) in
    let c = n * q * q - p * p in
    let e : b + p * p ≡ m * m = square-split m p h in
    let f : n * c + n * (p * p) ≡ b + p * p = omega (arith, ap (λ (z : ℕ). n * z) (sub-add_cancel g)) in
    let k : (m * m) ^ n * (n * c) ≤ m * m * b ^ n = rw e at (bern-under n b (p * p) (n * c) f) in
    let k' : m ^ n * m ^ n * (n * c) ≤ n * (n * q * q) * ((m + p) ^ n * (m - p) ^ n) = rw (← mul-pow m m n, ← mul-pow (m + p) (m - p) n) (le_trans k (le_of_eq (ap (λ (z : ℕ). z * b ^ n) (omega arith)))) in
    record { cross = le_trans (near-alg n c (n * q * q) (m ^ n) (m ^ n) ((m + p) ^ n * (m - p) ^ n) N k') (le_of_eq (mul_assoc ((m + p) ^ n) ((m - p) ^ n) (n * q * q))) }
