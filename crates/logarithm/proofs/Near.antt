-- From bounds on a logarithm in units of 2^-46 to what it is for a double to lie near it. Assumes nothing.
use mathlib.Core.Path.{◌≡◌, refl, sym}
use mathlib.Core.Bool.{Bool, true, false, true≢false}
use Prim.Native.Nat.{ℕ, ◌+◌, ◌*◌, ◌^◌, ◌≤◌, ◌<◌}
use native.Mathlib.Nat.{mul-le-mul_left, sub-eq-zero_of_le}
use native.Mathlib.Omega.{arith}
use lib.Dec.{T}
use lib.Pow.{pow_pos}
use lib.Ieee.{Float, nan, inf, fin, up, down}
use lib.Ieee.Fits.{down_pos}
use lib.Ieee.Exact.{HasValue}
use lib.Ieee.Scale.{finite}
use Rattle.fractions.specs.Frac.{frac, none, plus, LeFrac}
use Rattle.fractions.proofs.Frac.{le-frac-trans}
use Rattle.logarithm.specs.Logarithm.{recips, lower, upper, LnAtMost, LnAtLeast}
use Rattle.logarithm.specs.Near.{LnNear, over_zero, under_zero}

-- ---- for b ≤ a the bounds of ln (b / a) are empty
pub lower-none : (a b n : ℕ) → b ≤ a → lower b a n ≡ none
unfolding lower recips
lower-none a b n h = rw (sub-eq-zero_of_le (mul-le-mul_left n h)) refl

pub upper-none : (a b n : ℕ) → b ≤ a → upper b a n ≡ none
unfolding upper recips
upper-none a b n h = rw (sub-eq-zero_of_le (mul-le-mul_left n h)) refl

-- c / d is p / 2^46, and 2 / 2^46 is below 1 / 2^40
module _ (a b p c d : ℕ) (h : b ≤ a) (D : 0 < d) (e : c * 2 ^ 46 ≡ p * d) (u : LnAtLeast a b (frac p (2 ^ 46))) (v : LnAtMost a b (frac (p + 2) (2 ^ 46))) where
  sum-reached : (n : ℕ) → 0 < n → LeFrac (lower a b n) (plus (frac c d) (frac 1 (2 ^ 40)))
  sum-reached n N = le-frac-trans {y = frac (p + 2) (2 ^ 46)} (pow_pos 46) (v.bound n N) (record { cross = omega arith })

  sum_kept : (n : ℕ) → 0 < n → LeFrac (frac c d) (upper a b n)
  sum_kept n N = le-frac-trans {y = frac p (2 ^ 46)} (pow_pos 46) (record { cross = omega arith }) (u.bound n N)

  pub near-over : LnNear a b (frac c d) (none) (frac 1 (2 ^ 40))
  near-over = record {
    reached = λ n N. rw (upper-none a b n h) (record { cross = omega (arith, (sum-reached n N).cross) });
    kept = λ n N. rw (lower-none a b n h) (record { cross = omega (arith, (sum_kept n N).cross) });
  }

  pub near-under : LnNear b a (none) (frac c d) (frac 1 (2 ^ 40))
  near-under = record {
    reached = λ n N. rw (lower-none a b n h) (record { cross = omega (arith, (sum_kept n N).cross) });
    kept = λ n N. rw (upper-none a b n h) (record { cross = omega (arith, (sum-reached n N).cross) });
  }

-- ---- for doubles
module _ (a b p : ℕ) (h : b ≤ a) (u : LnAtLeast a b (frac p (2 ^ 46))) (v : LnAtMost a b (frac (p + 2) (2 ^ 46))) where
  pub float-over : (r : Float) → HasValue r false p (2 ^ 46) → LnNear a b (over_zero r) (under_zero r) (frac 1 (2 ^ 40))
  float-over nan k = absurd k
  float-over (inf s) k = absurd k
  float-over (fin true m e) k = absurd (true≢false k.0)
  float-over (fin false m e) k = near-over a b p (m * up e) (down e) h (down_pos e) k.1 u v

  pub float-under : (r : Float) → HasValue r true p (2 ^ 46) → LnNear b a (over_zero r) (under_zero r) (frac 1 (2 ^ 40))
  float-under nan k = absurd k
  float-under (inf s) k = absurd k
  float-under (fin false m e) k = absurd (true≢false (sym k.0))
  float-under (fin true m e) k = near-under a b p (m * up e) (down e) h (down_pos e) k.1 u v

pub value-finite : (r : Float) (s : Bool) (a c : ℕ) → HasValue r s a c → T (finite r)
value-finite nan s a c k = absurd k
value-finite (inf t) s a c k = absurd k
value-finite (fin t m e) s a c k = tt
