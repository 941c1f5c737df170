-- The rounded product and quotient by the two parts of each value: what they are, that they keep the order, and how large they get; what a
-- range test says of a value's size; and 0.0 times a value above zero. Assumes nothing.
use mathlib.Core.Path.{◌≡◌, sym, ap, ap₂, ◌∙◌, refl}
use mathlib.Core.Bool.{Bool, true, false}
use Prim.Native.Nat.compare
use Prim.Native.Nat.{ℕ, zero, suc, ◌+◌, ◌*◌, ◌^◌, ◌≤◌, ◌<◌, zero-le, ◌-◌, ◌/◌, ◌%◌, compare}
use native.Mathlib.Nat.{le_trans, le_of_eq, lt_of_lt_of_le, lt_irrefl, zero-mul, mul-zero, mul_comm, mul_assoc, mul_left_comm, mul-mul-mul_comm, mul-pos, mul-le-mul, mul-le-mul_right, mul-le-mul_left, eq_of_mul-eq-mul_right, zero-lt-suc, zero-div, zero-mod, not-suc-le-zero}
use native.Mathlib.Omega.{arith}
use lib.Dec.{eqb-suc-zero}
use lib.Pow.{pow_pos}
use lib.Ieee.{Float, nan, inf, fin, Format, prec, low, up, down, unlike, round, mul, div, binary64, size, units, odd, nearest}
use lib.Ieee.Fits.{down_pos, up_pos, mul-fits, div-fits, round_is, core}
use lib.IntN.{ℤ, pos}
use Rattle.doubles.specs.Size.{mag, sgn, Real, Within}
use Rattle.doubles.specs.Order.{over_part, under_part, over, under, Le}
use Rattle.doubles.proofs.Size.{exact, grid, grid_mono, grid-zero, mag-zero}
use Rattle.doubles.proofs.Order.{cross-l, cross-r}
use Rattle.doubles.proofs.Sums.{Rounds, round-over, round_under, plus, less, rounds-same, rounds-mono, rounds-within, parts-mag, over-le, under-le}
use Rattle.doubles.specs.Decimal as Decimal

-- ---- the product
sign-rounds : (f : Format) (s t : Bool) (w k a b c : ℕ) → 0 < k → 0 < c → w * c ≡ a * b * k
    → Rounds f (round f (unlike s t) w k) (over_part s a * over_part t b + under_part s a * under_part t b) (over_part s a * under_part t b + under_part s a * over_part t b) c
sign-rounds f false false w k a b c K C h =
    rounds-same f (round f false w k) w 0 k (a * b + 0 * 0) (a * 0 + 0 * b) c K C (omega arith) (omega arith) (plus f w w 0 k K (omega arith) (omega arith))
sign-rounds f true true w k a b c K C h =
    rounds-same f (round f false w k) w 0 k (0 * 0 + a * b) (0 * b + a * 0) c K C (omega arith) (omega arith) (plus f w w 0 k K (omega arith) (omega arith))
sign-rounds f false true w k a b c K C h =
    rounds-same f (round f true w k) 0 w k (a * 0 + 0 * b) (a * b + 0 * 0) c K C (omega arith) (omega arith) (less f w 0 w k K (omega arith) (omega arith))
sign-rounds f true false w k a b c K C h =
    rounds-same f (round f true w k) 0 w k (0 * b + a * 0) (0 * 0 + a * b) c K C (omega arith) (omega arith) (less f w 0 w k K (omega arith) (omega arith))

pub mul-rounds : (f : Format) (x y : Float) → Real f x → Real f y
    → Rounds f (mul f x y) (over f x * over f y + under f x * under f y) (over f x * under f y + under f x * over f y) (2 ^ low f * 2 ^ low f)
unfolding mul over under sgn
mul-rounds f nan y p q = absurd p.fini
mul-rounds f (inf s) y p q = absurd p.fini
mul-rounds f (fin s m e) nan p q = absurd q.fini
mul-rounds f (fin s m e) (inf t) p q = absurd q.fini
mul-rounds f (fin s m e) (fin t n d) p q =
    let U = 2 ^ low f in
    let x' = mag f (fin s m e) in
    let y' = mag f (fin t n d) in
    sign-rounds f s t (m * up e * (n * up d)) (down e * down d) x' y' (U * U) (mul-pos (down_pos e) (down_pos d)) (mul-pos (pow_pos (low f)) (pow_pos (low f)))
    (mul-mul-mul_comm (m * up e) (n * up d) U U ∙ ap₂ ◌*◌ (exact f s m e p.fit) (exact f t n d q.fit) ∙ mul-mul-mul_comm x' (down e) y' (down d))

pub mul_mono : (f : Format) (x y z : Float) → Real f x → Real f y → Real f z → under f z ≡ 0 → Le f x y → Le f (mul f x z) (mul f y z)
mul_mono f x y z p q r e h =
    let a : under f x * under f z ≡ 0 = ap (λ (k : ℕ). under f x * k) e ∙ mul-zero (under f x) in
    let b : over f x * under f z ≡ 0 = ap (λ (k : ℕ). over f x * k) e ∙ mul-zero (over f x) in
    let c : under f y * under f z ≡ 0 = ap (λ (k : ℕ). under f y * k) e ∙ mul-zero (under f y) in
    let d : over f y * under f z ≡ 0 = ap (λ (k : ℕ). over f y * k) e ∙ mul-zero (over f y) in
    let i = mul-le-mul_right (over f z) h.rise in
    let j = mul-le-mul_right (over f z) h.fall in
    rounds-mono f (mul f x z) (mul f y z) _ _ _ _ (2 ^ low f * 2 ^ low f) (mul-pos (pow_pos (low f)) (pow_pos (low f))) (omega arith) (omega arith) (mul-rounds f x z p r) (mul-rounds f y z q r)

-- the fixed factor on the left
pub mul-mono-left : (f : Format) (z x y : Float) → Real f z → Real f x → Real f y → under f z ≡ 0 → Le f x y → Le f (mul f z x) (mul f z y)
mul-mono-left f z x y r p q e h =
    let a : under f z * under f x ≡ 0 = ap (λ (k : ℕ). k * under f x) e ∙ zero-mul (under f x) in
    let b : under f z * over f x ≡ 0 = ap (λ (k : ℕ). k * over f x) e ∙ zero-mul (over f x) in
    let c : under f z * under f y ≡ 0 = ap (λ (k : ℕ). k * under f y) e ∙ zero-mul (under f y) in
    let d : under f z * over f y ≡ 0 = ap (λ (k : ℕ). k * over f y) e ∙ zero-mul (over f y) in
    let i = mul-le-mul_left (over f z) h.rise in
    let j = mul-le-mul_left (over f z) h.fall in
    rounds-mono f (mul f z x) (mul f z y) _ _ _ _ (2 ^ low f * 2 ^ low f) (mul-pos (pow_pos (low f)) (pow_pos (low f))) (omega arith) (omega arith) (mul-rounds f z x r p) (mul-rounds f z y r q)

pub like-le : (s t : Bool) (a b : ℕ) → (over_part s a * over_part t b + under_part s a * under_part t b ≤ a * b) × (over_part s a * under_part t b + under_part s a * over_part t b ≤ a * b)
like-le false false a b = omega arith
like-le false true a b = omega arith
like-le true false a b = omega arith
like-le true true a b = omega arith

pub mul-within : (f : Format) (A B : ℕ) (x y : Float) → Within f A x → Within f B y → A * B ≤ 2 ^ prec f → Within f (A * B) (mul f x y)
unfolding over under
mul-within f A B x y p q N =
    let U = 2 ^ low f in
    let k : mag f x * mag f y ≤ A * B * (U * U) = le_trans (mul-le-mul p.size q.size) (le_of_eq (mul-mul-mul_comm A U B U)) in
    let l = like-le (sgn x) (sgn y) (mag f x) (mag f y) in
    rounds-within f (mul f x y) _ _ (U * U) (A * B) (mul-pos (pow_pos (low f)) (pow_pos (low f))) N (le_trans l.0 k) (le_trans l.1 k) (mul-fits f x y) (mul-rounds f x y p.real q.real)

-- ---- the quotient by a value above zero
-- a / b is x / y, where both are in the same other unit
ratio : (a b x y u k : ℕ) → 0 < u → 0 < k → a * u ≡ x * k → b * u ≡ y * k → a * y ≡ x * b
ratio a b x y u k U K h g =
    eq_of_mul-eq-mul_right (u * k) (mul-pos U K) (a * y) (x * b)
    (mul-mul-mul_comm a y u k ∙ ap₂ ◌*◌ h (sym g) ∙ simp (mul_assoc, mul_comm, mul_left_comm))

quotient-rounds : (f : Format) (s : Bool) (a b x y : ℕ) → 0 < b → 0 < y → a * y ≡ x * b → Rounds f (round f (unlike s false) a b) (over_part s x) (under_part s x) y
quotient-rounds f false a b x y B Y h = rounds-same f (round f false a b) a 0 b x 0 y B Y h (omega arith) (plus f a a 0 b B (omega arith) (omega arith))
quotient-rounds f true a b x y B Y h = rounds-same f (round f true a b) 0 a b 0 x y B Y (omega arith) h (less f a 0 a b B (omega arith) (omega arith))

pub div-rounds : (f : Format) (x y : Float) → Real f x → Real f y → 0 < over f y → Rounds f (div f x y) (over f x) (under f x) (over f y)
unfolding div over under sgn
div-rounds f nan y p q h = absurd p.fini
div-rounds f (inf s) y p q h = absurd p.fini
div-rounds f (fin s m e) nan p q h = absurd q.fini
div-rounds f (fin s m e) (inf t) p q h = absurd q.fini
div-rounds f (fin s m e) (fin true n d) p q h = absurd (lt_irrefl 0 h)
div-rounds f (fin s m e) (fin false zero d) p q h = absurd (lt_irrefl 0 (rw (mag-zero f false d) at h))
div-rounds f (fin s m e) (fin false (suc n) d) p q h =
    rw (eqb-suc-zero n)
    (quotient-rounds f s (m * up e * down d) (suc n * up d * down e) (mag f (fin s m e)) (mag f (fin false (suc n) d)) (mul-pos (mul-pos (zero-lt-suc n) (up_pos d)) (down_pos e)) h
    (ratio (m * up e * down d) (suc n * up d * down e) (mag f (fin s m e)) (mag f (fin false (suc n) d)) (2 ^ low f) (down e * down d) (pow_pos (low f)) (mul-pos (down_pos e) (down_pos d)) (cross-l f s m e d p.fit) (cross-r f false (suc n) d e q.fit)))

pub div_mono : (f : Format) (x y z : Float) → Real f x → Real f y → Real f z → 0 < over f z → Le f x y → Le f (div f x z) (div f y z)
div_mono f x y z p q r c h = rounds-mono f (div f x z) (div f y z) _ _ _ _ (over f z) c (omega arith) (omega arith) (div-rounds f x z p r c) (div-rounds f y z q r c)

-- |x| ≤ A and y ≥ 1 / k: |x / y| ≤ A * k
pub div-within : (f : Format) (A k : ℕ) (x y : Float) → Within f A x → Real f y → 2 ^ low f ≤ k * over f y → A * k ≤ 2 ^ prec f → Within f (A * k) (div f x y)
div-within f A k x y p q h N =
    let c : 0 < over f y = pos-right k (over f y) (lt_of_lt_of_le (pow_pos (low f)) h) in
    let l : mag f x ≤ A * k * over f y = le_trans p.size (le_trans (mul-le-mul_left A h) (le_of_eq (sym (mul_assoc A k (over f y))))) in
    rounds-within f (div f x y) _ _ (over f y) (A * k) c N (le_trans (over-le f x) l) (le_trans (under-le f x) l) (div-fits f x y) (div-rounds f x y p.real q c)
  where
    pos-right : (a b : ℕ) → 0 < a * b → 0 < b
    pos-right a zero h = absurd (lt_irrefl 0 (rw (mul-zero a) at h))
    pos-right a (suc b) h = zero-lt-suc b

-- ---- between two values of magnitude at most A
pub within-between : (f : Format) (A : ℕ) (lo x hi : Float) → Within f A lo → Within f A hi → Real f x → Le f lo x → Le f x hi → Within f A x
within-between f A lo x hi p q r h k =
    record { real = r; size = parts-mag f x (A * 2 ^ low f) (le_trans k.rise (le_trans (over-le f hi) q.size)) (le_trans h.fall (le_trans (under-le f lo) p.size)) }

-- ---- `round` with its sign: the order of ±a / b and ±c / d
pub round-mono-signed : (f : Format) (s : Bool) (a b : ℕ) (t : Bool) (c d : ℕ) → 0 < b → 0 < d → over_part s (a * d) ≤ over_part t (c * b) → under_part t (c * b) ≤ under_part s (a * d) → Le f (round f s a b) (round f t c d)
round-mono-signed f s a b t c d B D h k = record {
  rise = le_trans (le_of_eq (round-over f s a b)) (le_trans (up s t h) (le_of_eq (sym (round-over f t c d))));
  fall = le_trans (le_of_eq (round_under f t c d)) (le_trans (dn s t k) (le_of_eq (sym (round_under f s a b))));
}
  where
    none : (a d b : ℕ) → 0 < b → 0 < d → a * d ≤ 0 → grid f a b ≤ 0
    none a d b B D h = le_trans (grid_mono f a b 0 d B D (le_trans h zero-le)) (le_of_eq (grid-zero f d D))

    up : (s t : Bool) → over_part s (a * d) ≤ over_part t (c * b) → over_part s (grid f a b) ≤ over_part t (grid f c d)
    up true t h = zero-le
    up false false h = grid_mono f a b c d B D h
    up false true h = none a d b B D h

    dn : (s t : Bool) → under_part t (c * b) ≤ under_part s (a * d) → under_part t (grid f c d) ≤ under_part s (grid f a b)
    dn s false h = zero-le
    dn true true h = grid_mono f c d a b D B h
    dn false true h = none c b d D B h

-- ---- what a program's tests say: x is at least 1 / k, and x is not negative
pub at_least : (f : Format) (k : ℕ) (c x : Float) → 2 ^ low f ≤ k * over f c → Le f c x → 2 ^ low f ≤ k * over f x
at_least f k c x h l = le_trans h (mul-le-mul_left k l.rise)

pub not_negative : (f : Format) (c x : Float) → under f c ≡ 0 → Le f c x → under f x ≡ 0
not_negative f c x h l = let k = l.fall in omega arith

-- ---- 0.0 times a finite value above zero is 0.0, to the last bit

nearest_zero : (u : ℕ) → 0 < u → nearest 0 (compare 0 u) ≡ 0
nearest_zero zero h = absurd (not-suc-le-zero h)
nearest_zero (suc u) h = rw (compare.zero-suc u) refl

-- a fraction of 0 is rounded to 0
round-zero : (s : Bool) (den : ℕ) → 0 < den → round binary64 s 0 den ≡ fin s 0 (pos 0)
unfolding size units odd
round-zero s den h =
    round_is binary64 s 0 den
    ∙ ap (λ (n : ℕ). core binary64 s n den (size (n / den) - prec binary64)) (zero-mul (2 ^ low binary64))
    ∙ ap (λ (n : ℕ). core binary64 s 0 den (size n - prec binary64)) (zero-div den)
    ∙ ap (λ (n : ℕ). units binary64 s n 0) (ap (λ (n : ℕ). nearest n (compare (0 % (den * 2 ^ 0) * 2) (den * 2 ^ 0))) (zero-div (den * 2 ^ 0)) ∙ ap (λ (n : ℕ). nearest 0 (compare (n * 2) (den * 2 ^ 0))) (zero-mod (den * 2 ^ 0)) ∙ nearest_zero (den * 2 ^ 0) (mul-pos h (pow_pos 0)))

zero-product : (m : ℕ) (e : ℤ) → mul binary64 Decimal.zero (fin false m e) ≡ Decimal.zero
unfolding mul
zero-product m e =
    ap (λ (n : ℕ). round binary64 false n (1 * down e)) (zero-mul (m * up e)) ∙ round-zero false (1 * down e) (mul-pos (omega arith) (down_pos e))

pub zero-times : (x : Float) → Real binary64 x → 0 < over binary64 x → mul binary64 Decimal.zero x ≡ Decimal.zero
unfolding over sgn
zero-times nan r h = absurd r.fini
zero-times (inf s) r h = absurd r.fini
zero-times (fin true m e) r h = absurd (lt_irrefl 0 h)
zero-times (fin false m e) r h = zero-product m e
