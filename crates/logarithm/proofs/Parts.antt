-- The figure's parts as the program works them out. Assumes nothing.
use mathlib.Core.Path.{◌≡◌, ap, sym, ◌∙◌}
use Prim.Native.Nat.{ℕ, ◌+◌, ◌-◌, ◌*◌, ◌/◌, ◌^◌, ◌≤◌, ◌<◌}
use native.Mathlib.Nat.{mul-div-mul_left, mul-div-mul_right, mul_assoc, div-mul-le_self, lt-div-mul-add, le-div_iff_mul-le, div-le_of_le-mul}
use native.Mathlib.Omega.{arith}
use lib.Dec.{lit<}
use lib.ListN.{get_or}
use Rattle.logarithm.specs.Figure.{ln_series, steps, ln2, ln_reduced, ln_ratio}

pub reduced-is : (c u k s : ℕ) → s ≡ ln_series u → (get_or steps (c - 32) 0 + s + k * ln2) / 256 ≡ ln_reduced c u k
unfolding ln_reduced
reduced-is c u k s e = ap (λ (z : ℕ). (get_or steps (c - 32) 0 + z + k * ln2) / 256) e

pub ratio-is : (a b k q : ℕ) → q ≡ (32 * a - 32 * a / b * b) * 2 ^ 54 / (32 * a) → ln_reduced (32 * a / b) q k ≡ ln_ratio a b k
unfolding ln_ratio
ratio-is a b k q e = ap (λ (z : ℕ). ln_reduced (32 * a / b) z k) e

-- ---- m / 2^52
module _ (m : ℕ) (l : 2 ^ 52 ≤ m) (h : m < 2 ^ 53) where
  same-step : m / 2 ^ 47 ≡ 32 * m / 2 ^ 52
  same-step = sym (mul-div-mul_left {m = 32} m (2 ^ 47) (lit< tt))

  scaled : (c : ℕ) → 32 * (m - c * 2 ^ 47) ≡ 32 * m - c * 2 ^ 52
  scaled c = omega arith

  same-rest : (c : ℕ) → (m - c * 2 ^ 47) * 2 ^ 54 / m ≡ (32 * m - c * 2 ^ 52) * 2 ^ 54 / (32 * m)
  same-rest c =
      sym (mul-div-mul_left {m = 32} ((m - c * 2 ^ 47) * 2 ^ 54) m (lit< tt))
      ∙ ap (λ (z : ℕ). z / (32 * m)) (sym (mul_assoc 32 (m - c * 2 ^ 47) (2 ^ 54)))
      ∙ ap (λ (z : ℕ). z * 2 ^ 54 / (32 * m)) (scaled c)

  pub from-one-is : (k q : ℕ) → q ≡ (m - m / 2 ^ 47 * 2 ^ 47) * 2 ^ 54 / m → ln_reduced (m / 2 ^ 47) q k ≡ ln_ratio m (2 ^ 52) k
  from-one-is k q e =
      ap (λ (z : ℕ). ln_reduced z q k) same-step
      ∙ ratio-is m (2 ^ 52) k q (e ∙ same-rest (m / 2 ^ 47) ∙ ap (λ (z : ℕ). (32 * m - z * 2 ^ 52) * 2 ^ 54 / (32 * m)) same-step)

  pub from-one-rest : (m - m / 2 ^ 47 * 2 ^ 47) * 2 ^ 54 / m ≤ 2 ^ 53
  from-one-rest = div-le_of_le-mul m (omega arith)

-- ---- 2^53 / m
module _ (m : ℕ) (l : 2 ^ 52 ≤ m) (h : m < 2 ^ 53) where
  pub inverse-under : 288230376151711744 / m * m ≤ 288230376151711744
  inverse-under = div-mul-le_self 288230376151711744 m

  inverse-over : 288230376151711744 < 288230376151711744 / m * m + m
  inverse-over = lt-div-mul-add (omega arith)

  pub inverse-step : (32 ≤ 288230376151711744 / m) × (288230376151711744 / m ≤ 64)
  inverse-step = ((le-div_iff_mul-le {k = m} {x = 32} {y = 288230376151711744} (omega arith)).1 (omega arith), div-le_of_le-mul m (omega arith))

  pub inverse-rest : (288230376151711744 - 288230376151711744 / m * m) / 16 ≤ 2 ^ 53
  inverse-rest = small (288230376151711744 / m * m) inverse-over
    where
      small : (y : ℕ) → 288230376151711744 < y + m → (288230376151711744 - y) / 16 ≤ 2 ^ 53
      small y g = omega arith

  pub below-one-is : (k : ℕ) → ln_reduced (288230376151711744 / m) ((288230376151711744 - 288230376151711744 / m * m) / 16) k ≡ ln_ratio (2 ^ 53) m k
  below-one-is k =
      ratio-is (2 ^ 53) m k ((288230376151711744 - 288230376151711744 / m * m) / 16)
      (sym (mul-div-mul_right {m = 2 ^ 54} (288230376151711744 - 288230376151711744 / m * m) 16 (lit< tt)))
