-- What a calculation uses of fractions that are at least, or at most, a logarithm. Assumes nothing.
use mathlib.Core.Path.{◌≡◌, refl, sym, ap, ◌∙◌}
use Prim.Native.Nat.{ℕ, zero, suc, ◌+◌, ◌-◌, ◌*◌, ◌^◌, ◌≤◌, ◌<◌}
use native.Mathlib.Nat.{mul-le-mul_right, mul-le-mul_left, le_of_mul-le-mul_left, mul-pos, mul_comm, mul_right_comm, mul-mul-mul_comm, mul-sub, zero-lt-suc, pow-suc, pow-zero, one-le-pow, mul-zero, one-mul, mul-one, suc-mul, sub_self}
use native.Mathlib.Numerals.{add-one}
use native.Mathlib.Omega.{arith}
use lib.Dec.{lit≤, lit<}
use lib.Pow.{pow_pos}
use Rattle.fractions.specs.Frac.{Frac, frac, plus, LeFrac}
use Rattle.fractions.proofs.Frac.{le-frac-trans, plus-mono}
use Rattle.logarithm.specs.Logarithm.{recips, lower, upper, LnAtMost, LnAtLeast}
use Rattle.logarithm.specs.Figure.{ln2}
use Rattle.logarithm.proofs.Sums.{lower-pos, upper_pos, lower-scale, upper-scale, lower-finer, upper-finer, lower-product, upper-product}
use Rattle.logarithm.proofs.Series.{fact, part, whole, more, series-under, series-over}

-- ---- weaker bounds
pub at-most-le : {a b : ℕ} {p q : Frac} → 0 < p.den → LeFrac p q → LnAtMost a b p → LnAtMost a b q
at-most-le h l u = record { bound = λ n N. le-frac-trans h (u.bound n N) l }

pub at-least-le : {a b : ℕ} {p q : Frac} → 0 < q.den → LeFrac p q → LnAtLeast a b q → LnAtLeast a b p
at-least-le h l u = record { bound = λ n N. le-frac-trans h l (u.bound n N) }

-- ---- products: (a / c) = (b / c) (a / b)
pub at-most-product : {a b c : ℕ} {p q : Frac} → c ≤ b → b ≤ a → LnAtMost b c p → LnAtMost a b q → LnAtMost a c (plus p q)
at-most-product {a} {b} {c} h g u v = record { bound = λ n N. rw (lower-product a b c n h g) (plus-mono (u.bound n N) (v.bound n N)) }

pub at-least-product : {a b c : ℕ} {p q : Frac} → c ≤ b → b ≤ a → LnAtLeast b c p → LnAtLeast a b q → LnAtLeast a c (plus p q)
at-least-product {a} {b} {c} h g u v = record { bound = λ n N. rw (upper-product a b c n h g) (plus-mono (u.bound n N) (v.bound n N)) }

-- ---- only the ratio counts
pub at-most-scale : {a b : ℕ} {q : Frac} (t : ℕ) → 0 < t → LnAtMost a b q → LnAtMost (t * a) (t * b) q
at-most-scale {a} {b} t T u = record { bound = λ n N. rw (lower-scale t a b n) (u.bound (n * t) (mul-pos N T)) }

pub at-least-scale : {a b : ℕ} {q : Frac} (t : ℕ) → 0 < t → LnAtLeast a b q → LnAtLeast (t * a) (t * b) q
at-least-scale {a} {b} t T u = record { bound = λ n N. rw (upper-scale t a b n) (u.bound (n * t) (mul-pos N T)) }

pub at-most-ratio : {a b : ℕ} {q : Frac} (c d : ℕ) → 0 < b → 0 < d → a * d ≡ c * b → LnAtMost a b q → LnAtMost c d q
at-most-ratio {a} {b} {q} c d B D e u = record {
  bound = λ n N.
      le-frac-trans (lower-pos c d (b * n)) (lower-finer c d n b B)
      (rw (mul_comm b n, ← lower-scale b c d n, mul_comm b c, ← e, mul_comm a d, mul_comm b d, lower-scale d a b n) (u.bound (n * d) (mul-pos N D)));
}

pub at-least-ratio : {a b : ℕ} {q : Frac} (c d : ℕ) → 0 < b → 0 < d → a * d ≡ c * b → LnAtLeast a b q → LnAtLeast c d q
at-least-ratio {a} {b} {q} c d B D e u = record {
  bound = λ n N.
      le-frac-trans (upper_pos c d (b * n) (mul-pos (mul-pos B N) D))
      (rw (mul_comm b n, ← upper-scale b c d n, mul_comm b c, ← e, mul_comm a d, mul_comm b d, upper-scale d a b n) (u.bound (n * d) (mul-pos N D)))
      (upper-finer c d n b B (mul-pos N D));
}

-- ---- the series at n a, n b
pub mul-pow : (a b j : ℕ) → (a * b) ^ j ≡ a ^ j * b ^ j
mul-pow a b zero = rw (pow-zero (a * b), pow-zero a, pow-zero b) refl
mul-pow a b (suc j) = rw (pow-suc (a * b) j, pow-suc a j, pow-suc b j, mul-pow a b j) (mul-mul-mul_comm (a ^ j) (b ^ j) a b)

pub part-hom : (n m s j : ℕ) → part j (n * m) (n * s) ≡ n ^ j * part j m s
unfolding part
part-hom n m s zero = sym (mul-zero (n ^ 0))
part-hom n m s (suc j) = rw (part-hom n m s j, mul-pow n s (suc j), pow-suc n j) (omega arith)

pub whole-hom : (n m j : ℕ) → whole j (n * m) ≡ n ^ j * whole j m
unfolding whole
whole-hom n m zero = rw (pow-zero n) refl
whole-hom n m (suc j) = rw (whole-hom n m j, pow-suc n j) (omega arith)

pub more-hom : (n m s j : ℕ) → more j (n * m) (n * s) ≡ n ^ suc j * more j m s
unfolding more
more-hom n m s j = rw (part-hom n m s j, mul-pow n s (suc j), pow-suc n j) (omega arith)

pub whole_is : (j m : ℕ) → whole j m ≡ fact j * m ^ j
unfolding whole fact
whole_is zero m = rw (pow-zero m) refl
whole_is (suc j) m = rw (whole_is j m, pow-suc m j) (omega arith)

pub fact-pos : (j : ℕ) → 0 < fact j
unfolding fact
fact-pos zero = zero-lt-suc 0
fact-pos (suc j) = mul-pos (zero-lt-suc j) (fact-pos j)

pub whole_pos : (j m : ℕ) → 0 < m → 0 < whole j m
whole_pos j m h = rw (whole_is j m) (mul-pos (fact-pos j) (one-le-pow j m h))

pub cancel_left : (c p w : ℕ) (y : Frac) → 0 < c → LeFrac (frac (c * p) (c * w)) y → LeFrac (frac p w) y
cancel_left c p w y C h = record { cross = le_of_mul-le-mul_left {k = c} (omega (arith, h.cross)) C }

pub cancel_right : (c p w : ℕ) (y : Frac) → 0 < c → LeFrac y (frac (c * p) (c * w)) → LeFrac y (frac p w)
cancel_right c p w y C h = record { cross = le_of_mul-le-mul_left {k = c} (omega (arith, h.cross)) C }

-- ---- the series bounds the logarithm: from below, and with its last term twice from above while a ≤ 2 b
module _ (j a b : ℕ) (h : b ≤ a) where
  pub at-least-series : LnAtLeast a b (frac (part j a (a - b)) (whole j a))
  unfolding upper
  at-least-series = record { bound = bounds }
    where
      bounds : (n : ℕ) → 0 < n → LeFrac (frac (part j a (a - b)) (whole j a)) (recips (n * b) (n * a - n * b))
      bounds n N =
          let k : n * b ≤ n * a = mul-le-mul_left n h in
          let g = series-under j (n * a - n * b) (n * b) (n * a) (omega arith) in
          cancel_left (n ^ j) (part j a (a - b)) (whole j a) (recips (n * b) (n * a - n * b)) (one-le-pow j n N)
          (rw (← part-hom n a (a - b) j, ← whole-hom n a j, mul-sub n a b) g)

  pub at-most-series : a ≤ 2 * b → LnAtMost a b (frac (more j a (a - b)) (whole (suc j) a))
  unfolding lower
  at-most-series l = record { bound = bounds }
    where
      bounds : (n : ℕ) → 0 < n → LeFrac (recips (n * b + 1) (n * a - n * b)) (frac (more j a (a - b)) (whole (suc j) a))
      bounds n N =
          let k : n * b ≤ n * a = mul-le-mul_left n h in
          let m : n * a ≤ 2 * (n * b) = omega (arith, mul-le-mul_left n l) in
          let g = series-over j (n * a - n * b) (n * b) (n * a) (omega arith) m in
          cancel_right (n ^ suc j) (more j a (a - b)) (whole (suc j) a) (recips (n * b + 1) (n * a - n * b)) (one-le-pow (suc j) n N)
          (rw (← more-hom n a (a - b) j, ← whole-hom n a (suc j), mul-sub n a b, add-one (n * b)) g)

-- ---- the logarithm of 2, in units of 2 ^ -54
pub ln2-over : LnAtLeast 2 1 (frac ln2 (2 ^ 54))
unfolding part whole fact
ln2-over = at-least-le {q = frac (part 60 2 1) (whole 60 2)} (whole_pos 60 2 (lit< tt)) (record { cross = lit≤ tt }) (at-least-series 60 2 1 (lit≤ tt))

pub ln2-under : LnAtMost 2 1 (frac (ln2 + 1) (2 ^ 54))
unfolding part whole fact more
ln2-under = at-most-le {p = frac (more 60 2 1) (whole 61 2)} (whole_pos 61 2 (lit< tt)) (record { cross = lit≤ tt }) (at-most-series 60 2 1 (lit≤ tt) (lit≤ tt))

-- ---- sums over one denominator
module _ (m : ℕ) (M : 0 < m) {a b c p q : ℕ} (h : c ≤ b) (g : b ≤ a) where
  pub at-least-sum : LnAtLeast b c (frac p m) → LnAtLeast a b (frac q m) → LnAtLeast a c (frac (p + q) m)
  at-least-sum u v = at-least-le {q = plus (frac p m) (frac q m)} (mul-pos M M) (record { cross = omega arith }) (at-least-product h g u v)

  pub at-most-sum : LnAtMost b c (frac p m) → LnAtMost a b (frac q m) → LnAtMost a c (frac (p + q) m)
  at-most-sum u v = at-most-le {p = plus (frac p m) (frac q m)} (mul-pos M M) (record { cross = omega arith }) (at-most-product h g u v)

-- ---- powers of two, from any start
pub at-least-double : (k b : ℕ) → 0 < b → LnAtLeast (2 ^ k * b) b (frac (k * ln2) (2 ^ 54))
at-least-double zero b B = record { bound = λ n N. record { cross = omega arith } }
at-least-double (suc k) b B =
    let t = 2 ^ k * b in
    let T : 0 < t = mul-pos (pow_pos k) B in
    let e : 2 ^ suc k * b ≡ t * 2 = ap (λ (z : ℕ). z * b) (pow-suc 2 k) ∙ mul_right_comm (2 ^ k) 2 b in
    let l : b ≤ t = omega (arith, mul-le-mul_right b (pow_pos k)) in
    let s : LnAtLeast (t * 2) t (frac ln2 (2 ^ 54)) = rw (mul-one t) at (at-least-scale t T ln2-over) in
    rw (e, suc-mul k ln2) (at-least-sum (2 ^ 54) (pow_pos 54) l (omega arith) (at-least-double k b B) s)

pub at-most-double : (k b : ℕ) → 0 < b → LnAtMost (2 ^ k * b) b (frac (k * (ln2 + 1)) (2 ^ 54))
unfolding lower recips
at-most-double zero b B = record { bound = λ n N. rw (one-mul b, sub_self (n * b)) (record { cross = omega arith }) }
at-most-double (suc k) b B =
    let t = 2 ^ k * b in
    let T : 0 < t = mul-pos (pow_pos k) B in
    let e : 2 ^ suc k * b ≡ t * 2 = ap (λ (z : ℕ). z * b) (pow-suc 2 k) ∙ mul_right_comm (2 ^ k) 2 b in
    let l : b ≤ t = omega (arith, mul-le-mul_right b (pow_pos k)) in
    let s : LnAtMost (t * 2) t (frac (ln2 + 1) (2 ^ 54)) = rw (mul-one t) at (at-most-scale t T ln2-under) in
    rw (e, suc-mul k (ln2 + 1)) (at-most-sum (2 ^ 54) (pow_pos 54) l (omega arith) (at-most-double k b B) s)
