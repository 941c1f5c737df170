-- The series of the exponential, with whole numbers. Assumes nothing.
use mathlib.Core.Path.{◌≡◌, refl}
use Prim.Native.Nat.{ℕ, zero, suc, ◌+◌, ◌*◌, ◌^◌, ◌≤◌}
use native.Mathlib.Nat.{le_refl, mul-le-mul_right, mul-le-mul_left, pow-suc, pow-zero, pow-le-pow_left, zero-mul, suc-mul}
use native.Mathlib.Omega.{arith}
use Rattle.logarithm.proofs.Series.{whole, pow-one}
use Rattle.logarithm.proofs.Bounds.{mul-pow}

unfoldable pub taylor : ℕ → ℕ → ℕ → ℕ
taylor zero m s = 1
taylor (suc j) m s = suc j * m * taylor j m s + s ^ suc j

-- ---- differences of powers, by p
under-pow-alg : (j s p u b : ℕ) → u * (s + p) ≤ b + suc j * p * u → u * (s + p) * (s + p) ≤ b * s + suc (suc j) * p * (u * (s + p))
under-pow-alg j s p u b h = omega (arith, mul-le-mul_right s h)

pow-under : (s p j : ℕ) → (s + p) ^ suc j ≤ s ^ suc j + suc j * p * (s + p) ^ j
pow-under s p zero = rw (pow-one s, pow-one (s + p), pow-zero (s + p)) (omega arith)
pow-under s p (suc j) = rw (pow-suc (s + p) (suc j), pow-suc s (suc j), pow-suc (s + p) j) (under-pow-alg j s p ((s + p) ^ j) (s ^ suc j) (rw (pow-suc (s + p) j) at (pow-under s p j)))

over-pow-alg : (j s p v a : ℕ) → v * s + suc j * p * v ≤ a → v * s * s + suc (suc j) * p * (v * s) ≤ a * (s + p)
over-pow-alg j s p v a h = omega (arith, mul-le-mul_right (s + p) h)

pow-over : (s p j : ℕ) → s ^ suc j + suc j * p * s ^ j ≤ (s + p) ^ suc j
pow-over s p zero = rw (pow-one s, pow-one (s + p), pow-zero s) (omega arith)
pow-over s p (suc j) = rw (pow-suc (s + p) (suc j), pow-suc s (suc j), pow-suc s j) (over-pow-alg j s p (s ^ j) ((s + p) ^ suc j) (rw (pow-suc s j) at (pow-over s p j)))

-- ---- one step of s
module _ (m p : ℕ) where
  under-alg : (j s h h' u v : ℕ) → m * h' + p * u ≤ m * h + p * h' → u * (s + p) ≤ v + suc j * p * u
      → m * (suc j * m * h' + u * (s + p)) + p * (u * (s + p)) ≤ m * (suc j * m * h + v) + p * (suc j * m * h' + u * (s + p))
  under-alg j s h h' u v a b = omega (arith, mul-le-mul_left (suc j * m) a, mul-le-mul_left m b)

  pub step-under : (j s : ℕ) → m * taylor j m (s + p) + p * (s + p) ^ j ≤ m * taylor j m s + p * taylor j m (s + p)
  unfolding taylor
  step-under zero s = rw (pow-zero (s + p)) (omega arith)
  step-under (suc j) s = rw (pow-suc (s + p) j) (under-alg j s (taylor j m s) (taylor j m (s + p)) ((s + p) ^ j) (s ^ suc j) (step-under j s) (rw (pow-suc (s + p) j) at (pow-under s p j)))

  over-alg : (j s h h' u v : ℕ) → m * h + p * h ≤ m * h' + p * u → u * s + suc j * p * u ≤ v
      → m * (suc j * m * h + u * s) + p * (suc j * m * h + u * s) ≤ m * (suc j * m * h' + v) + p * (u * s)
  over-alg j s h h' u v a b = omega (arith, mul-le-mul_left (suc j * m) a, mul-le-mul_left m b)

  pub step-over : (j s : ℕ) → m * taylor j m s + p * taylor j m s ≤ m * taylor j m (s + p) + p * s ^ j
  unfolding taylor
  step-over zero s = rw (pow-zero s) (omega arith)
  step-over (suc j) s = rw (pow-suc s j) (over-alg j s (taylor j m s) (taylor j m (s + p)) (s ^ j) ((s + p) ^ suc j) (step-over j s) (rw (pow-suc s j) at (pow-over s p j)))

-- the last term twice
unfoldable pub topped : ℕ → ℕ → ℕ → ℕ
topped j m s = suc j * m * taylor j m s + 2 * s ^ suc j

top-alg : (j m p s h h' u v : ℕ) → 2 * s ≤ suc j * m → m * h + p * h ≤ m * h' + p * u → u * s + suc j * p * u ≤ v
    → (suc j * m * h + 2 * (u * s)) * (m + p) ≤ m * (suc j * m * h' + 2 * v)
top-alg j m p s h h' u v l a b = omega (arith, mul-le-mul_left (suc j * m) a, mul-le-mul_left (2 * m) b, mul-le-mul_left (p * u) l)

pub topped-step : (m p j s : ℕ) → 2 * s ≤ suc j * m → topped j m s * (m + p) ≤ m * topped j m (s + p)
unfolding topped
topped-step m p j s l = rw (pow-suc s j) (top-alg j m p s (taylor j m s) (taylor j m (s + p)) (s ^ j) ((s + p) ^ suc j) l (step-over m p j s) (rw (pow-suc s j) at (pow-over s p j)))

pub taylor-none : (j m : ℕ) → taylor j m 0 ≡ whole j m
unfolding taylor whole
taylor-none zero m = refl
taylor-none (suc j) m = rw (taylor-none j m, pow-suc 0 j) (omega arith)

pub topped-none : (j m : ℕ) → topped j m 0 ≡ whole (suc j) m
unfolding topped whole
topped-none j m = rw (taylor-none j m, pow-suc 0 j) (omega arith)

-- ---- i steps of p
walk-alg : (T T' b m W A B : ℕ) → T' * b ≤ m * T → T * A ≤ W * B → T' * (A * b) ≤ W * (B * m)
walk-alg T T' b m W A B h g = omega (arith, mul-le-mul_right A h, mul-le-mul_right m g)

pub walk-under : (j b p i : ℕ) → taylor j (b + p) (i * p) * b ^ i ≤ whole j (b + p) * (b + p) ^ i
walk-under j b p zero = rw (zero-mul p, pow-zero b, pow-zero (b + p), taylor-none j (b + p)) (le_refl _)
walk-under j b p (suc i) =
    let m = b + p in
    let h : taylor j m (i * p + p) * b ≤ m * taylor j m (i * p) = omega (arith, step-under m p j (i * p)) in
    rw (suc-mul i p, pow-suc b i, pow-suc m i) (walk-alg (taylor j m (i * p)) (taylor j m (i * p + p)) b m (whole j m) (b ^ i) (m ^ i) h (walk-under j b p i))

walk-alg' : (T T' c m W A B : ℕ) → T * c ≤ m * T' → A * W ≤ T * B → A * c * W ≤ T' * (B * m)
walk-alg' T T' c m W A B h g = omega (arith, mul-le-mul_right B h, mul-le-mul_right c g)

pub walk-over : (j m p n i : ℕ) → 2 * (n * p) ≤ suc j * m → i ≤ n → (m + p) ^ i * whole (suc j) m ≤ topped j m (i * p) * m ^ i
walk-over j m p n zero l k = rw (zero-mul p, pow-zero (m + p), pow-zero m, topped-none j m) (omega arith)
walk-over j m p n (suc i) l k =
    let s : 2 * (i * p) ≤ suc j * m = omega (arith, mul-le-mul_right p k) in
    rw (suc-mul i p, pow-suc (m + p) i, pow-suc m i) (walk-alg' (topped j m (i * p)) (topped j m (i * p + p)) (m + p) m (whole (suc j) m) ((m + p) ^ i) (m ^ i) (topped-step m p j (i * p) s) (walk-over j m p n i l (omega arith)))

-- ---- at n q, n p
pub taylor-hom : (n m s j : ℕ) → taylor j (n * m) (n * s) ≡ n ^ j * taylor j m s
unfolding taylor
taylor-hom n m s zero = rw (pow-zero n) refl
taylor-hom n m s (suc j) = rw (taylor-hom n m s j, mul-pow n s (suc j), pow-suc n j) (omega arith)

pub topped-hom : (n m s j : ℕ) → topped j (n * m) (n * s) ≡ n ^ suc j * topped j m s
unfolding topped
topped-hom n m s j = rw (taylor-hom n m s j, mul-pow n s (suc j), pow-suc n j) (omega arith)

-- a larger s
pub taylor-mono : (j m s s' : ℕ) → s ≤ s' → taylor j m s ≤ taylor j m s'
unfolding taylor
taylor-mono zero m s s' h = le_refl 1
taylor-mono (suc j) m s s' h = omega (arith, mul-le-mul_left (suc j * m) (taylor-mono j m s s' h), pow-le-pow_left h (suc j))
