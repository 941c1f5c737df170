-- The exponential of a fraction p / q, by fractions that close in on it from both sides: for x = p / q, (1 + x / n)^n from below and 1 / (1 − x / n)^n
-- from above.
use Rattle.std.specs.Prelude.{Bool, true, false, ℕ, ◌+◌, ◌-◌, ◌*◌, ◌^◌, ◌≤◌, ◌<◌}
use Rattle.fractions.specs.Frac.{Frac, frac, one, times, inverse, LeFrac}
use Rattle.fractions.specs.Number.{Number}
use Rattle.logarithm.specs.Logarithm.{LnAtMost, LnAtLeast}

-- at each n from 1 on
unfoldable pub exp_below : ℕ → ℕ → ℕ → Frac
exp_below p q n = frac ((n * q + p) ^ n) ((n * q) ^ n)

-- at each n with p < n q
unfoldable pub exp_above : ℕ → ℕ → ℕ → Frac
exp_above p q n = frac ((n * q) ^ n) ((n * q - p) ^ n)

-- exp (p / q); with the sign exp (− p / q), which is its inverse
abbrev pub exponential : Bool → ℕ → ℕ → Number
exponential false p q = record { lower = λ n. exp_below p q n; upper = λ n. exp_above p q n }
exponential true p q = record { lower = λ n. inverse (exp_above p q n); upper = λ n. inverse (exp_below p q n) }

-- exp (p / q) ≤ w
pub record ExpAtMost (p q : ℕ) (w : Frac) : Type 0 where
  pub bound : (n : ℕ) → 0 < n → LeFrac (exp_below p q n) w

-- w ≤ exp (p / q)
pub record ExpAtLeast (p q : ℕ) (w : Frac) : Type 0 where
  pub bound : (n : ℕ) → p < n * q → LeFrac w (exp_above p q n)

-- that this is the exponential; proofs/Laws.antt shows it
pub record ExponentialLaws : Type 0 where
  -- every lower bound is at most every upper bound
  pub ordered : (p q n m : ℕ) → 0 < q → 0 < n → 0 < m → p < m * q → LeFrac (exp_below p q n) (exp_above p q m)
  -- and at n it is at least 1 − x² / n of it
  pub close : (p q n : ℕ) → 0 < n → p ≤ n * q → p * p ≤ n * q * q → LeFrac (times (exp_above p q n) (frac (n * q * q - p * p) (n * q * q))) (exp_below p q n)
  -- so that they leave room for one number only
  pub unique : (p q : ℕ) (v w : Frac) → 0 < q → ExpAtMost p q v → ExpAtLeast p q w → LeFrac w v
  -- a smaller argument has a smaller exponential, and only the ratio of p and q counts
  pub at_most_mono : (p q r s : ℕ) (w : Frac) → 0 < q → r * q ≤ p * s → ExpAtMost p q w → ExpAtMost r s w
  pub at_least_mono : (p q r s : ℕ) (w : Frac) → 0 < q → 0 < s → p * s ≤ r * q → ExpAtLeast p q w → ExpAtLeast r s w
  -- exp 0 = 1, and 1 + x ≤ exp x
  pub at_most_nothing : (q : ℕ) → 0 < q → ExpAtMost 0 q one
  pub at_least_nothing : (q : ℕ) → 0 < q → ExpAtLeast 0 q one
  pub least : (p q n : ℕ) → 0 < q → 0 < n → LeFrac (frac (q + p) q) (exp_below p q n)
  -- the exponential of a sum is the product of the exponentials
  pub at_most_sum : (p r q : ℕ) (v w : Frac) → 0 < q → ExpAtMost p q v → ExpAtMost r q w → ExpAtMost (p + r) q (times v w)
  pub at_least_sum : (p r q : ℕ) (v w : Frac) → 0 < q → ExpAtLeast p q v → ExpAtLeast r q w → ExpAtLeast (p + r) q (times v w)
  -- exponential and logarithm undo one another
  pub of_ln_at_most : (a b p q : ℕ) → 0 < b → b ≤ a → 0 < q → LnAtMost a b (frac p q) → ExpAtLeast p q (frac a b)
  pub of_ln_at_least : (a b p q : ℕ) → 0 < b → b ≤ a → 0 < q → LnAtLeast a b (frac p q) → ExpAtMost p q (frac a b)
