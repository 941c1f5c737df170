-- The series u + u² / 2 + .. of the logarithm of 1 / (1 − u), u = s / m, in whole numbers: its bounds on sums of 1 / k. Assumes nothing.
use mathlib.Core.Path.{◌≡◌, refl, ap, ◌∙◌}
use Prim.Native.Nat.{ℕ, zero, suc, ◌+◌, ◌*◌, ◌^◌, ◌≤◌}
use native.Mathlib.Nat.{mul-le-mul_right, mul-le-mul_left, pow-suc, pow-zero, one-mul}
use native.Mathlib.Omega.{arith}
use Rattle.fractions.specs.Frac.{frac, LeFrac}
use Rattle.logarithm.specs.Logarithm.{recips}

-- ---- differences of powers
pub pow-one : (n : ℕ) → n ^ 1 ≡ n
pow-one n = pow-suc n 0 ∙ ap (λ (z : ℕ). z * n) (pow-zero n) ∙ one-mul n

under-pow-alg : (j s u b : ℕ) → u * suc s ≤ b + suc j * u → u * suc s * suc s ≤ b * s + suc (suc j) * (u * suc s)
under-pow-alg j s u b h = omega (arith, mul-le-mul_right s h)

-- (s + 1)^(j + 1) ≤ s^(j + 1) + (j + 1) (s + 1)^j
pub pow-under : (s j : ℕ) → suc s ^ suc j ≤ s ^ suc j + suc j * suc s ^ j
pow-under s zero = omega (arith, pow-one s, pow-one (suc s), pow-zero (suc s))
pow-under s (suc j) = rw (pow-suc (suc s) (suc j), pow-suc s (suc j), pow-suc (suc s) j) (under-pow-alg j s (suc s ^ j) (s ^ suc j) (rw (pow-suc (suc s) j) at (pow-under s j)))

over-pow-alg : (j s v a : ℕ) → v * s + suc j * v ≤ a → v * s * s + suc (suc j) * (v * s) ≤ a * suc s
over-pow-alg j s v a h = omega (arith, mul-le-mul_right (suc s) h)

-- s^(j + 1) + (j + 1) s^j ≤ (s + 1)^(j + 1)
pub pow-over : (s j : ℕ) → s ^ suc j + suc j * s ^ j ≤ suc s ^ suc j
pow-over s zero = omega (arith, pow-one s, pow-one (suc s), pow-zero s)
pow-over s (suc j) = rw (pow-suc (suc s) (suc j), pow-suc s (suc j), pow-suc s j) (over-pow-alg j s (s ^ j) (suc s ^ suc j) (rw (pow-suc s j) at (pow-over s j)))

-- ---- the series: part j m s / whole j m is s/m + (s/m)^2/2 + .. + (s/m)^j/j, and whole j m is j! m^j
unfoldable pub fact : ℕ → ℕ
fact zero = 1
fact (suc j) = suc j * fact j

unfoldable pub part : ℕ → ℕ → ℕ → ℕ
unfolding fact
part zero m s = 0
part (suc j) m s = suc j * m * part j m s + fact j * s ^ suc j

unfoldable pub whole : ℕ → ℕ → ℕ
whole zero m = 1
whole (suc j) m = suc j * m * whole j m

-- one step of s moves the series by no more than 1 / k, k + (s + 1) = m
under-alg : (j k t P P' F K u w : ℕ) → P' * k + F * u ≤ P * k + K → u * t ≤ w + suc j * u
    → (suc j * (k + t) * P' + F * (u * t)) * k + suc j * F * (u * t) ≤ (suc j * (k + t) * P + F * w) * k + suc j * (k + t) * K
under-alg j k t P P' F K u w h g = omega (arith, mul-le-mul_left (suc j * (k + t)) h, mul-le-mul_left (F * k) g)

pub under-step : (j k s : ℕ) → part j (k + suc s) (suc s) * k + fact j * suc s ^ j ≤ part j (k + suc s) s * k + whole j (k + suc s)
unfolding part fact whole
under-step zero k s = omega (arith, pow-zero (suc s))
under-step (suc j) k s = rw (pow-suc (suc s) j) (under-alg j k (suc s) (part j (k + suc s) s) (part j (k + suc s) (suc s)) (fact j) (whole j (k + suc s)) (suc s ^ j) (s ^ suc j) (under-step j k s) (rw (pow-suc (suc s) j) at (pow-under s j)))

over-alg : (j k s P P' F K u w : ℕ) → P * k + K ≤ P' * k + F * u → u * s + suc j * u ≤ w
    → (suc j * (k + s) * P + F * (u * s)) * k + suc j * (k + s) * K ≤ (suc j * (k + s) * P' + F * w) * k + suc j * F * (u * s)
over-alg j k s P P' F K u w h g = omega (arith, mul-le-mul_left (suc j * (k + s)) h, mul-le-mul_left (F * k) g)

-- and, but for its last term, by no less than 1 / k, k + s = m
pub over-step : (j k s : ℕ) → part j (k + s) s * k + whole j (k + s) ≤ part j (k + s) (suc s) * k + fact j * s ^ j
unfolding part fact whole
over-step zero k s = omega (arith, pow-zero s)
over-step (suc j) k s = rw (pow-suc s j) (over-alg j k s (part j (k + s) s) (part j (k + s) (suc s)) (fact j) (whole j (k + s)) (s ^ j) (suc s ^ suc j) (over-step j k s) (rw (pow-suc s j) at (pow-over s j)))

-- the last term twice: what the whole series stays under while s is at most half of m
unfoldable pub more : ℕ → ℕ → ℕ → ℕ
unfolding part fact
more j m s = suc j * m * part j m s + 2 * fact j * s ^ suc j

top-alg : (j m k s P P' F K u w : ℕ) → m ≤ 2 * k → P * k + K ≤ P' * k + F * u → u * s + suc j * u ≤ w
    → (suc j * m * P + 2 * F * (u * s)) * k + suc j * m * K ≤ (suc j * m * P' + 2 * F * w) * k
top-alg j m k s P P' F K u w l h g = omega (arith, mul-le-mul_left (suc j * m) h, mul-le-mul_left (2 * F * k) g, mul-le-mul_left (suc j * F * u) l)

pub top-step : (j k s : ℕ) → k + s ≤ 2 * k → more j (k + s) s * k + whole (suc j) (k + s) ≤ more j (k + s) (suc s) * k
unfolding more whole
top-step j k s l = rw (pow-suc s j) (top-alg j (k + s) k s (part j (k + s) s) (part j (k + s) (suc s)) (fact j) (whole j (k + s)) (s ^ j) (suc s ^ suc j) l (over-step j k s) (rw (pow-suc s j) at (pow-over s j)))

part_none : (j m : ℕ) → part j m 0 ≡ 0
unfolding part
part_none zero m = refl
part_none (suc j) m = rw (part_none j m, pow-suc 0 j) (omega arith)

-- ---- the sums of 1 / k that lie over and under
upper-alg : (P P' W k n d : ℕ) → P' * k ≤ P * k + W → P * d ≤ n * W → P' * (k * d) ≤ (1 * d + n * k) * W
upper-alg P P' W k n d h g = omega (arith, mul-le-mul_right d h, mul-le-mul_right k g)

pub series-under : (j s k m : ℕ) → k + s ≡ m → LeFrac (frac (part j m s) (whole j m)) (recips k s)
unfolding recips
series-under j zero k m e = record { cross = rw (part_none j m) (omega arith) }
series-under j (suc s) k m e =
    let h : part j m (suc s) * k ≤ part j m s * k + whole j m = omega (arith, rw e at (under-step j k s)) in
    let g = series-under j s (suc k) m (omega arith) in
    record { cross = upper-alg (part j m s) (part j m (suc s)) (whole j m) k (recips (suc k) s).num (recips (suc k) s).den h g.cross }

lower-alg : (Q Q' W k n d : ℕ) → Q * k + W ≤ Q' * k → n * W ≤ Q * d → (1 * d + n * k) * W ≤ Q' * (k * d)
lower-alg Q Q' W k n d h g = omega (arith, mul-le-mul_right d h, mul-le-mul_right k g)

pub series-over : (j s k m : ℕ) → k + s ≡ m → m ≤ 2 * k → LeFrac (recips (suc k) s) (frac (more j m s) (whole (suc j) m))
unfolding recips
series-over j zero k m e l = record { cross = omega arith }
series-over j (suc s) k m e l =
    let e' : suc k + s ≡ m = omega arith in
    let l' : suc k + s ≤ 2 * suc k = omega arith in
    let h : more j m s * suc k + whole (suc j) m ≤ more j m (suc s) * suc k = rw e' at (top-step j (suc k) s l') in
    let g = series-over j s (suc k) m e' (omega arith) in
    record { cross = lower-alg (more j m s) (more j m (suc s)) (whole (suc j) m) (suc k) (recips (suc (suc k)) s).num (recips (suc (suc k)) s).den h g.cross }
