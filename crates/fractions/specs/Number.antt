-- Numbers that fractions close in on from both sides, and what it is for a fraction to lie near one. A logarithm, an exponential, a sum of products of
-- exponentials is such a number; a fraction is one whose bounds are itself. No real number is needed: a statement over the bounds at every n says of the
-- number between them what it says.
use Rattle.std.specs.Prelude.{ℕ, ◌+◌, ◌-◌, ◌^◌, ◌≤◌, ◌<◌}
use Rattle.fractions.specs.Frac.{Frac, frac, plus, times, inverse, LeFrac}

-- by a lower and an upper bound at each n
pub record Number : Type 0 where
  pub lower : ℕ → Frac
  pub upper : ℕ → Frac

-- the bounds are fractions, from some n on
pub record Sound (from : ℕ) (x : Number) : Type 0 where
  pub below : (n : ℕ) → from ≤ n → 0 < (x.lower n).den
  pub above : (n : ℕ) → from ≤ n → 0 < (x.upper n).den

-- every lower bound is at most every upper bound
pub record Ordered (from : ℕ) (x : Number) : Type 0 where
  pub order : (n m : ℕ) → from ≤ n → from ≤ m → LeFrac (x.lower n) (x.upper m)

-- the fraction itself
abbrev pub exactly : Frac → Number
exactly x = record { lower = λ n. x; upper = λ n. x }

-- x + y, bound by bound
unfoldable pub sum_of : Number → Number → Number
sum_of x y = record { lower = λ n. plus (x.lower n) (y.lower n); upper = λ n. plus (x.upper n) (y.upper n) }

-- x × y, bound by bound
unfoldable pub product_of : Number → Number → Number
product_of x y = record { lower = λ n. times (x.lower n) (y.lower n); upper = λ n. times (x.upper n) (y.upper n) }

-- x / y: the bounds of y change sides
unfoldable pub quotient_of : Number → Number → Number
quotient_of x y = record { lower = λ n. times (x.lower n) (inverse (y.upper n)); upper = λ n. times (x.upper n) (inverse (y.lower n)) }

-- less × x ≤ w ≤ over × x, for the number x
pub record Within (from : ℕ) (less over : Frac) (x : Number) (w : Frac) : Type 0 where
  pub positive : 0 < w.den
  pub reached : (n : ℕ) → from ≤ n → LeFrac (times less (x.lower n)) w
  pub kept : (n : ℕ) → from ≤ n → LeFrac w (times over (x.upper n))

-- one part in 2^k less
abbrev pub less_part : ℕ → Frac
less_part k = frac (2 ^ k - 1) (2 ^ k)

-- one part in 2^k more
abbrev pub more_part : ℕ → Frac
more_part k = frac (2 ^ k + 1) (2 ^ k)

-- w lies within one part in 2^k of the number x
abbrev pub WithinPart : ℕ → ℕ → Number → Frac → Type 0
WithinPart k from x w = Within from (less_part k) (more_part k) x w
