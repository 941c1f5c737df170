-- The natural logarithm of a ratio a / b, by fractions that close in on it from both sides. It is the area under the hyperbola 1 / x from b to a. Between
-- n b and n a, in steps of 1, the same area lies between a sum of 1 / k that stays under the hyperbola and one that reaches over it.
use Rattle.std.specs.Prelude.{◌≡◌, ℕ, zero, suc, ◌+◌, ◌-◌, ◌*◌, ◌≤◌, ◌<◌}
use Rattle.fractions.specs.Frac.{Frac, frac, none, plus, LeFrac}
use Rattle.fractions.specs.Number.{Number, Sound, Ordered}

-- 1 / k + 1 / (k + 1) + .. , so many of them
unfoldable pub recips : ℕ → ℕ → Frac
recips k zero = none
recips k (suc count) = plus (frac 1 k) (recips (suc k) count)

-- for b ≤ a, at each n from 1 on; where a < b the sum is empty
unfoldable pub lower : ℕ → ℕ → ℕ → Frac
unfolding recips
lower a b n = recips (n * b + 1) (n * a - n * b)

unfoldable pub upper : ℕ → ℕ → ℕ → Frac
unfolding recips
upper a b n = recips (n * b) (n * a - n * b)

-- ln (a / b), for b ≤ a
abbrev pub logarithm : ℕ → ℕ → Number
logarithm a b = record { lower = lower a b; upper = upper a b }

-- ln (a / b) ≤ q, for b ≤ a
pub record LnAtMost (a b : ℕ) (q : Frac) : Type 0 where
  pub bound : (n : ℕ) → 0 < n → LeFrac (lower a b n) q

-- q ≤ ln (a / b), for b ≤ a
pub record LnAtLeast (a b : ℕ) (q : Frac) : Type 0 where
  pub bound : (n : ℕ) → 0 < n → LeFrac q (upper a b n)

-- that this is the natural logarithm; proofs/Laws.antt shows it
pub record LogarithmLaws : Type 0 where
  pub sound : (a b : ℕ) → 0 < b → Sound 1 (logarithm a b)
  -- every lower bound is at most every upper bound
  pub ordered : (a b : ℕ) → 0 < b → Ordered 1 (logarithm a b)
  -- and at n they lie no more than 1 / (n b) apart
  pub close : (a b n : ℕ) → LeFrac (upper a b n) (plus (frac 1 (n * b)) (lower a b n))
  -- so that they leave room for one number only
  pub unique : (a b : ℕ) (p q : Frac) → 0 < b → LnAtMost a b p → LnAtLeast a b q → LeFrac q p
  -- only the ratio counts: a / b = c / d
  pub ratio_at_most : (a b c d : ℕ) (q : Frac) → 0 < b → 0 < d → a * d ≡ c * b → LnAtMost a b q → LnAtMost c d q
  pub ratio_at_least : (a b c d : ℕ) (q : Frac) → 0 < b → 0 < d → a * d ≡ c * b → LnAtLeast a b q → LnAtLeast c d q
  -- the logarithm of a product is the sum of the logarithms, at each n exactly: a / c = (b / c) (a / b)
  pub product_lower : (a b c n : ℕ) → c ≤ b → b ≤ a → lower a c n ≡ plus (lower b c n) (lower a b n)
  pub product_upper : (a b c n : ℕ) → c ≤ b → b ≤ a → upper a c n ≡ plus (upper b c n) (upper a b n)
  -- 1 − 1 / x ≤ ln x ≤ x − 1
  pub least : (a b n : ℕ) → 0 < n → 0 < a → b ≤ a → LeFrac (frac (a - b) a) (lower a b n)
  pub most : (a b n : ℕ) → 0 < n → 0 < b → LeFrac (upper a b n) (frac (a - b) b)
