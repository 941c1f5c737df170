-- A rounded sum is −0.0 only where what was added to is. So a sum that starts from 0.0 never is. Assumes nothing.
use mathlib.Core.Path.{◌≡◌, refl, sym, ap, ◌∙◌}
use mathlib.Core.Bool.{Bool, true, false, cond}
use Prim.Native.Nat.{ℕ, zero, suc, ◌+◌, ◌-◌, ◌*◌, ◌^◌, ◌≤◌, ◌<◌}
use native.Mathlib.Nat.{not-suc-le-zero, zero-lt-suc, zero-mul, one-mul, mul-pos, mul-le-mul_right, mul-lt-mul_of_pos_right, lt_of_mul-lt-mul_right, le_trans, le_of_eq, lt_of_lt_of_le}
use native.Mathlib.Omega.{arith}
use lib.Dec.{T, ltb, ltb→lt, eqb-suc-zero}
use lib.IntN.{ℤ, negsuc}
use lib.Pow.{pow_pos}
use lib.Ieee.{Float, nan, inf, fin, binary64, low, up, down, round, sum, add, fits}
use lib.Ieee.Fits.{down_pos, up_pos}
use Rattle.doubles.specs.Size.{mag, Real, negative_zero}
use Rattle.doubles.proofs.Size.{Signed, exact, mag-zero, grid, grid_mono, grid-fix, round-signed, round-mag}
use Rattle.doubles.proofs.Order.{cross-l, cross-r}
use Rattle.doubles.proofs.Sums.{sub-scale, add-scale}

-- ---- by its sign, or by its size

unsigned : (x : Float) → Signed false x → negative_zero x ≡ false
unfolding negative_zero
unsigned nan h = refl
unsigned (inf s) h = refl
unsigned (fin s m e) h = rw h

sized : (x : Float) → 0 < mag binary64 x → negative_zero x ≡ false
unfolding negative_zero
sized nan h = refl
sized (inf s) h = refl
sized (fin s zero e) h = absurd (not-suc-le-zero (rw mag-zero at h))
sized (fin true (suc m) e) h = eqb-suc-zero m
sized (fin false (suc m) e) h = refl

-- the smallest value above zero is one unit
one_unit : grid binary64 1 (2 ^ low binary64) ≡ 1
one_unit = ap (λ (n : ℕ). grid binary64 n (2 ^ low binary64)) (sym size) ∙ grid-fix binary64 tiny (record { fit = fit; fini = tt }) ∙ size
  where
    tiny : Float
    tiny = fin false 1 (negsuc 1073)

    size : mag binary64 tiny ≡ 1
    size = unfold mag in refl

    fit : T (fits binary64 tiny)
    fit = unfold fits in tt

-- a fraction of at least one unit is not rounded to zero
above_zero : (a c : ℕ) → 0 < c → c ≤ a * 2 ^ low binary64 → 0 < grid binary64 a c
above_zero a c C h =
    lt_of_lt_of_le (omega (arith, one_unit)) (grid_mono binary64 1 (2 ^ low binary64) a c (pow_pos (low binary64)) C (le_trans (le_of_eq (one-mul c)) h))

-- ---- the sum, its terms as fractions of c, of x and y units

module _ (a b c x y : ℕ) (C : 0 < c) (h : a * 2 ^ low binary64 ≡ x * c) (k : b * 2 ^ low binary64 ≡ y * c) where
  rounds-up : (s : Bool) (w z : ℕ) → w * 2 ^ low binary64 ≡ z * c → 0 < z → negative_zero (round binary64 s w c) ≡ false
  rounds-up s w z e p =
      let unit : c ≤ z * c = le_trans (le_of_eq (sym (one-mul c))) (mul-le-mul_right c p) in
      sized (round binary64 s w c) (rw (round-mag binary64 s w c) (above_zero w c C (le_trans unit (le_of_eq (sym e)))))

  zero-or-above : (w : ℕ) → negative_zero (round binary64 false w c) ≡ false
  zero-or-above w = unsigned (round binary64 false w c) (round-signed binary64 false w c)

  -- from a < b to x < y, and back
  units-below : (a b x y : ℕ) → a * 2 ^ low binary64 ≡ x * c → b * 2 ^ low binary64 ≡ y * c → a < b → 0 < y - x
  units-below a b x y h k l =
      let m : a * 2 ^ low binary64 < b * 2 ^ low binary64 = mul-lt-mul_of_pos_right l (pow_pos (low binary64)) in
      let n : x * c < y * c = rw (h, k) at m in
      omega (arith, lt_of_mul-lt-mul_right c n)

  sum-not : (s t : Bool) → (s ≡ true → 0 < x) → negative_zero (sum binary64 s a t b c) ≡ false
  unfolding sum
  sum-not false false p = zero-or-above (a + b)
  sum-not true true p = rounds-up true (a + b) (x + y) (add-scale a b (2 ^ low binary64) x y c h k) (omega (arith, p refl))
  sum-not false true p = go (ltb a b) (ltb→lt a b)
    where
      go : (i : Bool) → (T i → a < b) → negative_zero (cond i (round binary64 true (b - a) c) (round binary64 false (a - b) c)) ≡ false
      go true l = rounds-up true (b - a) (y - x) (sub-scale b a (2 ^ low binary64) y x c k h) (units-below a b x y h k (l tt))
      go false l = zero-or-above (a - b)
  sum-not true false p = go (ltb a b) (ltb b a) (ltb→lt b a)
    where
      go : (i j : Bool) → (T j → b < a) → negative_zero (cond i (round binary64 false (b - a) c) (round binary64 j (a - b) c)) ≡ false
      go true j l = zero-or-above (b - a)
      go false true l = rounds-up true (a - b) (x - y) (sub-scale a b (2 ^ low binary64) x y c h k) (units-below b a y x k h (l tt))
      go false false l = zero-or-above (a - b)

-- a finite value below zero, other than −0.0, has a size
has-size : (m : ℕ) (e : ℤ) → T (fits binary64 (fin true m e)) → negative_zero (fin true m e) ≡ false → 0 < mag binary64 (fin true m e)
unfolding negative_zero
has-size zero e t z = absurd (let y : ◌≡◌ {A = ℕ} 0 1 = cc in omega arith)
has-size (suc m) e t z = go (mag binary64 (fin true (suc m) e)) (exact binary64 true (suc m) e t)
  where
    go : (n : ℕ) → suc m * up e * 2 ^ low binary64 ≡ n * down e → 0 < n
    go zero q = absurd (not-suc-le-zero (rw (q ∙ zero-mul (down e)) at (mul-pos (mul-pos (zero-lt-suc m) (up_pos e)) (pow_pos (low binary64)))))
    go (suc n) q = zero-lt-suc n

pub add-not : (x y : Float) → Real binary64 x → Real binary64 y → negative_zero x ≡ false → negative_zero (add binary64 x y) ≡ false
unfolding add
add-not nan y p q z = absurd p.fini
add-not (inf s) y p q z = absurd p.fini
add-not (fin s m e) nan p q z = absurd q.fini
add-not (fin s m e) (inf t) p q z = absurd q.fini
add-not (fin s m e) (fin t n d) p q z =
    sum-not (m * up e * down d) (n * up d * down e) (down e * down d) (mag binary64 (fin s m e)) (mag binary64 (fin t n d)) (mul-pos (down_pos e) (down_pos d))
    (cross-l binary64 s m e d p.fit) (cross-r binary64 t n d e q.fit) s t (negative s p.fit z)
  where
    negative : (s : Bool) → T (fits binary64 (fin s m e)) → negative_zero (fin s m e) ≡ false → s ≡ true → 0 < mag binary64 (fin s m e)
    negative true f w h = has-size m e f w
    negative false f w h = absurd (let y : ◌≡◌ {A = ℕ} 0 1 = cc in omega arith)
