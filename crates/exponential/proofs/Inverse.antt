-- The exponential and the logarithm undo one another: where ln x is at most y, x is at most exp y, and where y is at most ln x, exp y is at most x. Assumes nothing.
use mathlib.Core.Path.{◌≡◌, refl}
use Prim.Native.Nat.{ℕ, zero, suc, ◌+◌, ◌-◌, ◌*◌, ◌^◌, ◌≤◌, ◌<◌}
use native.Mathlib.Nat.{le_trans, le_of_eq, mul-le-mul_right, mul-le-mul_left, mul-pos, mul_comm, zero-lt-suc, one-le-pow, pow-le-pow_left, pow-suc, pow-zero, zero-mul, not-suc-le-zero}
use native.Mathlib.Omega.{arith}
use Rattle.fractions.specs.Frac.{frac, plus, LeFrac}
use Rattle.fractions.proofs.Frac.{le-frac-trans, plus-mono}
use Rattle.logarithm.specs.Logarithm.{lower, upper, LnAtMost, LnAtLeast}
use Rattle.logarithm.proofs.Sums.{lower-pos, upper_pos, lower-scale, upper-scale, lower-product, upper-product, ln-least, ln-most, ln-order}
use Rattle.exponential.specs.Exponential.{exp_below, exp_above, ExpAtMost, ExpAtLeast}
use Rattle.exponential.proofs.Unique.{stable}

-- ---- powers
module _ (A B p : ℕ) (P : 0 < B) (e : B + p ≡ A) where
  A_pos : 0 < A
  A_pos = omega arith

  pub pow-lower : (i N : ℕ) → 0 < N → LeFrac (frac (i * p) A) (lower (A ^ i) (B ^ i) N)
  pow-lower zero N M = record { cross = omega arith }
  pow-lower (suc i) N M =
      let a : B ^ i * B ≤ A ^ i * B = mul-le-mul_right B (pow-le-pow_left (omega arith) i) in
      let b : A ^ i * B ≤ A ^ i * A = mul-le-mul_left (A ^ i) (omega arith) in
      let f : LeFrac (frac (i * p) A) (lower (A ^ i * B) (B ^ i * B) N) = rw (mul_comm (A ^ i) B, mul_comm (B ^ i) B, lower-scale B (A ^ i) (B ^ i) N) (pow-lower i (N * B) (mul-pos M P)) in
      let d : A - B ≡ p = omega arith in
      let g : LeFrac (frac p A) (lower (A ^ i * A) (A ^ i * B) N) = rw (lower-scale (A ^ i) A B N) (rw d at (ln-least A B (N * A ^ i) (mul-pos M (one-le-pow i A A_pos)) A_pos (omega arith))) in
      rw (pow-suc A i, pow-suc B i, lower-product (A ^ i * A) (A ^ i * B) (B ^ i * B) N a b)
      (le-frac-trans {y = plus (frac (i * p) A) (frac p A)} (mul-pos A_pos A_pos) (record { cross = omega arith }) (plus-mono f g))

  pub pow-upper : (i N : ℕ) → 0 < N → LeFrac (upper (A ^ i) (B ^ i) N) (frac (i * p) B)
  pow-upper zero N M = le-frac-trans {y = frac (A ^ 0 - B ^ 0) (B ^ 0)} (one-le-pow 0 B P) (ln-most (A ^ 0) (B ^ 0) N M (one-le-pow 0 B P)) (record { cross = rw (pow-zero A, pow-zero B) (omega arith) })
  pow-upper (suc i) N M =
      let a : B ^ i * B ≤ A ^ i * B = mul-le-mul_right B (pow-le-pow_left (omega arith) i) in
      let b : A ^ i * B ≤ A ^ i * A = mul-le-mul_left (A ^ i) (omega arith) in
      let f : LeFrac (upper (A ^ i * B) (B ^ i * B) N) (frac (i * p) B) = rw (mul_comm (A ^ i) B, mul_comm (B ^ i) B, upper-scale B (A ^ i) (B ^ i) N) (pow-upper i (N * B) (mul-pos M P)) in
      let d : A - B ≡ p = omega arith in
      let g : LeFrac (upper (A ^ i * A) (A ^ i * B) N) (frac p B) = rw (upper-scale (A ^ i) A B N) (rw d at (ln-most A B (N * A ^ i) (mul-pos M (one-le-pow i A A_pos)) P)) in
      rw (pow-suc A i, pow-suc B i, upper-product (A ^ i * A) (A ^ i * B) (B ^ i * B) N a b)
      (le-frac-trans {y = plus (frac (i * p) B) (frac p B)} (mul-pos P P) (plus-mono f g) (record { cross = omega arith }))

none-alg : (n p q D Z : ℕ) → 0 < n → 0 < q → 0 < D → (n * p * Z + D * (n * q)) * q ≤ p * (n * q * Z) → ⊥
none-alg n p q D Z N Q P h = let k : 0 < D * (n * q) * q = mul-pos (mul-pos P (mul-pos N Q)) Q in omega arith

none-alg' : (n p q D Z : ℕ) → 0 < n → 0 < q → 0 < D → (p * Z + D * q) * (n * q) ≤ n * p * (q * Z) → ⊥
none-alg' n p q D Z N Q P h = let k : 0 < D * q * (n * q) = mul-pos (mul-pos P Q) (mul-pos N Q) in omega arith

module _ {a b : ℕ} (B : 0 < b) (h : b ≤ a) {p q : ℕ} (Q : 0 < q) where
  pub exp-at-least : LnAtMost a b (frac p q) → ExpAtLeast p q (frac a b)
  unfolding exp_above
  exp-at-least u = record { bound = λ n N. record { cross = stable _ _ (gap n N) } }
    where
      gap : (n : ℕ) → p < n * q → suc ((n * q) ^ n * b) ≤ a * (n * q - p) ^ n → ⊥
      gap zero N g = absurd (not-suc-le-zero (rw (zero-mul q) at N))
      gap (suc m) N g =
          let n = suc m in
          let X = (n * q) ^ n in
          let Y = (n * q - p) ^ n in
          let D = a * Y - X * b in
          let Y-pos : 0 < Y = one-le-pow n (n * q - p) (omega arith) in
          let l : b * Y ≤ X * b = le_trans (mul-le-mul_left b (pow-le-pow_left (omega arith) n)) (le_of_eq (mul_comm b X)) in
          let r : X * b ≤ a * Y = omega arith in
          let one : 0 < 1 = zero-lt-suc 0 in
          let first : LeFrac (frac (n * p) (n * q)) (lower (X * b) (b * Y) 1) = rw (mul_comm X b, lower-scale b X Y 1) (pow-lower (n * q) (n * q - p) p (omega arith) (omega arith) n (1 * b) (mul-pos one B)) in
          let second : LeFrac (frac D (a * Y)) (lower (a * Y) (X * b) 1) = ln-least (a * Y) (X * b) 1 one (omega arith) r in
          let all : LeFrac (lower (a * Y) (b * Y) 1) (frac p q) = rw (mul_comm a Y, mul_comm b Y, lower-scale Y a b 1) (u.bound (1 * Y) (mul-pos one Y-pos)) in
          let both : LeFrac (plus (frac (n * p) (n * q)) (frac D (a * Y))) (frac p q) = le-frac-trans (lower-pos (a * Y) (b * Y) 1) (rw (lower-product (a * Y) (X * b) (b * Y) 1 l r) (plus-mono first second)) all in
          none-alg n p q D (a * Y) (zero-lt-suc m) Q (omega arith) both.cross

  pub exp-at-most : LnAtLeast a b (frac p q) → ExpAtMost p q (frac a b)
  unfolding exp_below
  exp-at-most o = record { bound = λ n N. record { cross = stable _ _ (gap n N) } }
    where
      gap : (n : ℕ) → 0 < n → suc (a * (n * q) ^ n) ≤ (n * q + p) ^ n * b → ⊥
      gap n N g =
          let X = (n * q + p) ^ n in
          let Y = (n * q) ^ n in
          let D = X * b - a * Y in
          let nq : 0 < n * q = mul-pos N Q in
          let Y-pos : 0 < Y = one-le-pow n (n * q) nq in
          let l : b * Y ≤ a * Y = mul-le-mul_right Y h in
          let r : a * Y ≤ X * b = omega arith in
          let one : 0 < 1 = zero-lt-suc 0 in
          let all : LeFrac (upper (X * b) (b * Y) 1) (frac (n * p) (n * q)) = rw (mul_comm X b, upper-scale b X Y 1) (pow-upper (n * q + p) (n * q) p nq refl n (1 * b) (mul-pos one B)) in
          let first : LeFrac (frac p q) (upper (a * Y) (b * Y) 1) = rw (mul_comm a Y, mul_comm b Y, upper-scale Y a b 1) (o.bound (1 * Y) (mul-pos one Y-pos)) in
          let second : LeFrac (frac D (X * b)) (upper (X * b) (a * Y) 1) = le-frac-trans (lower-pos (X * b) (a * Y) 1) (ln-least (X * b) (a * Y) 1 one (omega arith) r) (ln-order (X * b) (a * Y) 1) in
          let both : LeFrac (plus (frac p q) (frac D (X * b))) (frac (n * p) (n * q)) = le-frac-trans (upper_pos (X * b) (b * Y) 1 (mul-pos one (mul-pos B Y-pos))) (rw (upper-product (X * b) (a * Y) (b * Y) 1 l r) (plus-mono first second)) all in
          none-alg' n p q D (X * b) N Q (omega arith) both.cross
