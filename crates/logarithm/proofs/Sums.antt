-- Sums of 1 / k side by side, and the bounds of the logarithm that they are. Assumes nothing.
use mathlib.Core.Path.{◌≡◌, sym, ap, ap₂, ◌∙◌}
use Prim.Native.Nat.{ℕ, zero, suc, ◌+◌, ◌-◌, ◌*◌, ◌≤◌, ◌<◌}
use native.Mathlib.Nat.{le_refl, mul-le-mul_right, mul-le-mul_left, mul-pos, mul_assoc, mul_comm, zero-lt-suc, add-suc, suc-add, add-zero, zero-add, mul-suc, add_comm, mul-sub, mul-zero}
use native.Mathlib.Omega.{arith}
use native.Mathlib.Numerals.{add-one}
use Rattle.fractions.specs.Frac.{frac, plus, LeFrac}
use Rattle.fractions.proofs.Frac.{le-frac-refl, le-frac-trans, plus-mono, plus_assoc, plus_none, le-plus-right}
use Rattle.logarithm.specs.Logarithm.{recips, lower, upper}

pub recips-pos : (k c : ℕ) → 0 < k → 0 < (recips k c).den
unfolding recips
recips-pos k zero h = zero-lt-suc 0
recips-pos k (suc c) h = mul-pos h (recips-pos (suc k) c (zero-lt-suc k))

-- ---- sums side by side
pub recips-split : (c d k : ℕ) → recips k (c + d) ≡ plus (recips k c) (recips (k + c) d)
unfolding recips
recips-split zero d k = rw (zero-add d, add-zero k) (sym (plus_none (recips k d)))
recips-split (suc c) d k = rw (suc-add c d, add-suc k c) (ap (plus (frac 1 k)) (recips-split c d (suc k) ∙ rw (suc-add k c)) ∙ plus_assoc (frac 1 k) (recips (suc k) c) (recips (suc (k + c)) d))

pub recips-more : (k c d : ℕ) → LeFrac (recips k c) (recips k (c + d))
recips-more k c d = rw (recips-split c d k) (le-plus-right (recips k c) (recips (k + c) d))

-- ---- the two bounds are in order, and 1 / k apart at most
pub recips-down : (c k : ℕ) → LeFrac (recips (suc k) c) (recips k c)
unfolding recips
recips-down zero k = le-frac-refl (frac 0 1)
recips-down (suc c) k = plus-mono (record { cross = omega arith }) (recips-down c (suc k))

pub recips-close : (c k : ℕ) → LeFrac (recips k c) (plus (frac 1 k) (recips (suc k) c))
unfolding recips
recips-close c k = rw (add-one c) at (recips-more k c 1)

-- ---- c of the numbers 1 / p, .. , each between 1 / hi and 1 / lo
pub block-lower : (c p m : ℕ) → p + c ≤ suc m → LeFrac (frac c m) (recips p c)
unfolding recips
block-lower zero p m h = record { cross = omega arith }
block-lower (suc c) p m h =
    let g = (block-lower c (suc p) m (omega arith)).cross in
    record { cross = block-lower-alg c p m (recips (suc p) c).num (recips (suc p) c).den (omega arith) g }
  where
    block-lower-alg : (c p m n d : ℕ) → p ≤ m → c * d ≤ n * m → suc c * (p * d) ≤ (1 * d + n * p) * m
    block-lower-alg c p m n d l g = omega (arith, mul-le-mul_right p g, mul-le-mul_right d l)

pub block-upper : (c p m : ℕ) → m ≤ p → LeFrac (recips p c) (frac c m)
unfolding recips
block-upper zero p m h = record { cross = omega arith }
block-upper (suc c) p m h =
    let g = (block-upper c (suc p) m (omega arith)).cross in
    record { cross = block-upper-alg c p m (recips (suc p) c).num (recips (suc p) c).den h g }
  where
    block-upper-alg : (c p m n d : ℕ) → m ≤ p → n * m ≤ c * d → (1 * d + n * p) * m ≤ suc c * (p * d)
    block-upper-alg c p m n d l g = omega (arith, mul-le-mul_right p g, mul-le-mul_right d l)

-- ---- finer sums are nearer
module _ (t : ℕ) (T : 0 < t) where
  pub finer-lower : (c k : ℕ) → LeFrac (recips (suc k) c) (recips (suc (t * k)) (t * c))
  unfolding recips
  finer-lower zero k = rw (mul-zero t) (le-frac-refl (frac 0 1))
  finer-lower (suc c) k =
      let e : suc (t * k) + t ≡ suc (t * suc k) = omega arith in
      let one : LeFrac (frac 1 (suc k)) (recips (suc (t * k)) t) = le-frac-trans {y = frac t (t * suc k)} (mul-pos T (zero-lt-suc k)) (record { cross = omega arith }) (block-lower t (suc (t * k)) (t * suc k) (omega arith)) in
      rw (mul-suc t c ∙ add_comm (t * c) t, recips-split t (t * c) (suc (t * k)), e) (plus-mono one (finer-lower c (suc k)))

  pub finer-upper : (c k : ℕ) → 0 < k → LeFrac (recips (t * k) (t * c)) (recips k c)
  unfolding recips
  finer-upper zero k K = rw (mul-zero t) (le-frac-refl (frac 0 1))
  finer-upper (suc c) k K =
      let e : t * k + t ≡ t * suc k = omega arith in
      let one : LeFrac (recips (t * k) t) (frac 1 k) = le-frac-trans {y = frac t (t * k)} (mul-pos T K) (block-upper t (t * k) (t * k) (le_refl (t * k))) (record { cross = omega arith }) in
      rw (mul-suc t c ∙ add_comm (t * c) t, recips-split t (t * c) (t * k), e) (plus-mono one (finer-upper c (suc k) (zero-lt-suc k)))

-- ---- the laws
-- in order, and 1 / (n * b) apart at most: the bounds close in
pub ln-order : (a b n : ℕ) → LeFrac (lower a b n) (upper a b n)
unfolding lower upper
ln-order a b n = rw (add-one (n * b)) (recips-down (n * a - n * b) (n * b))

pub ln-close : (a b n : ℕ) → LeFrac (upper a b n) (plus (frac 1 (n * b)) (lower a b n))
unfolding lower upper
ln-close a b n = rw (add-one (n * b)) (recips-close (n * a - n * b) (n * b))

-- a / b in other terms
pub lower-scale : (t a b n : ℕ) → lower (t * a) (t * b) n ≡ lower a b (n * t)
unfolding lower
lower-scale t a b n = rw (mul_assoc n t a, mul_assoc n t b)

pub upper-scale : (t a b n : ℕ) → upper (t * a) (t * b) n ≡ upper a b (n * t)
unfolding upper
upper-scale t a b n = rw (mul_assoc n t a, mul_assoc n t b)

gap-scale : (t n a b : ℕ) → t * n * a - t * n * b ≡ t * (n * a - n * b)
gap-scale t n a b = sym (mul-sub t (n * a) (n * b) ∙ ap₂ ◌-◌ (sym (mul_assoc t n a)) (sym (mul_assoc t n b)))

pub lower-finer : (a b n t : ℕ) → 0 < t → LeFrac (lower a b n) (lower a b (t * n))
unfolding lower
lower-finer a b n t T = rw (gap-scale t n a b, add-one (n * b), add-one (t * n * b), mul_assoc t n b) (finer-lower t T (n * a - n * b) (n * b))

pub upper-finer : (a b n t : ℕ) → 0 < t → 0 < n * b → LeFrac (upper a b (t * n)) (upper a b n)
unfolding upper
upper-finer a b n t T B = rw (gap-scale t n a b, mul_assoc t n b) (finer-upper t T (n * a - n * b) (n * b) B)

pub upper_pos : (a b n : ℕ) → 0 < n * b → 0 < (upper a b n).den
unfolding upper
upper_pos a b n h = recips-pos (n * b) (n * a - n * b) h

pub lower-pos : (a b n : ℕ) → 0 < (lower a b n).den
unfolding lower
lower-pos a b n = recips-pos (n * b + 1) (n * a - n * b) (omega arith)

-- every lower bound is at most every upper bound
pub ln-between : (a b n m : ℕ) → 0 < b → 0 < n → 0 < m → LeFrac (lower a b n) (upper a b m)
ln-between a b n m B N M =
    le-frac-trans (lower-pos a b (m * n)) (lower-finer a b n m M)
    (le-frac-trans (upper_pos a b (m * n) (mul-pos (mul-pos M N) B)) (ln-order a b (m * n))
    (rw (mul_comm n m) at (upper-finer a b m n N (mul-pos M B))))

-- the logarithm of a product, at each n exactly: (a / c) = (b / c) (a / b)
pub lower-product : (a b c n : ℕ) → c ≤ b → b ≤ a → lower a c n ≡ plus (lower b c n) (lower a b n)
unfolding lower
lower-product a b c n p q =
    let p' : n * c ≤ n * b = mul-le-mul_left n p in
    let q' : n * b ≤ n * a = mul-le-mul_left n q in
    let e : n * a - n * c ≡ (n * b - n * c) + (n * a - n * b) = omega arith in
    let f : n * c + 1 + (n * b - n * c) ≡ n * b + 1 = omega arith in
    ap (recips (n * c + 1)) e ∙ recips-split (n * b - n * c) (n * a - n * b) (n * c + 1) ∙ rw f

pub upper-product : (a b c n : ℕ) → c ≤ b → b ≤ a → upper a c n ≡ plus (upper b c n) (upper a b n)
unfolding upper
upper-product a b c n p q =
    let p' : n * c ≤ n * b = mul-le-mul_left n p in
    let q' : n * b ≤ n * a = mul-le-mul_left n q in
    let e : n * a - n * c ≡ (n * b - n * c) + (n * a - n * b) = omega arith in
    let f : n * c + (n * b - n * c) ≡ n * b = omega arith in
    ap (recips (n * c)) e ∙ recips-split (n * b - n * c) (n * a - n * b) (n * c) ∙ rw f

-- 1 − 1 / x ≤ ln x ≤ x − 1
pub ln-least : (a b n : ℕ) → 0 < n → 0 < a → b ≤ a → LeFrac (frac (a - b) a) (lower a b n)
unfolding lower
ln-least a b n N A h =
    let h' : n * b ≤ n * a = mul-le-mul_left n h in
    le-frac-trans {y = frac (n * a - n * b) (n * a)} (mul-pos N A) (record { cross = rw (← (mul-sub n a b)) (omega arith) }) (block-lower (n * a - n * b) (n * b + 1) (n * a) (omega arith))

pub ln-most : (a b n : ℕ) → 0 < n → 0 < b → LeFrac (upper a b n) (frac (a - b) b)
unfolding upper
ln-most a b n N B =
    le-frac-trans {y = frac (n * a - n * b) (n * b)} (mul-pos N B) (block-upper (n * a - n * b) (n * b) (n * b) (le_refl (n * b))) (record { cross = rw (← (mul-sub n a b)) (omega arith) })
