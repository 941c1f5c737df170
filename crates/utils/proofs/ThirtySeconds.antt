-- Doubles of at most n / 32 in size, and what becomes of them in sums: the entropy of a stack is at most 1 / 32. Assumes nothing.
use mathlib.Core.Path.{◌≡◌, refl, sym, ap, ◌∙◌}
use mathlib.Core.Bool.{Bool, true, false}
use Prim.Native.Nat.{ℕ, ◌+◌, ◌-◌, ◌*◌, ◌^◌, ◌≤◌, ◌<◌}
use native.Mathlib.Nat.{le_trans, le_of_eq, le_of_lt, lt_of_le_of_lt, mul_assoc, mul_right_comm, mul-le-mul_right, eq_of_mul-eq-mul_right}
use native.Mathlib.Omega.{arith}
use lib.Dec.{T, lit<, lit≤}
use lib.Pow.{pow_pos}
use lib.Ieee.{Float, nan, inf, fin, Format, binary32, binary64, prec, low, up, down, round, add, fits}
use lib.Ieee.Exact.{HasValue, round_exact}
use lib.Ieee.Fits.{down_pos, round-fits, add-fits}
use Rattle.doubles.specs.Decimal.{zero}
use Rattle.doubles.specs.Size.{mag, sgn, Real, Within}
use Rattle.doubles.specs.Order.{over_part, under_part, over, under}
use Rattle.doubles.proofs.Size.{exact, grid, grid_mono, round-mag, finite-of-mag, whole-lt}
use Rattle.doubles.proofs.Sums.{over-le, under-le, add_rounds}

-- finite, held by the format, and at most n / 32 in size
pub record Parts (f : Format) (n : ℕ) (x : Float) : Type 0 where
  pub real : Real f x
  pub size : mag f x * 32 ≤ n * 2 ^ low f

value-mag : (f : Format) (x : Float) (n : ℕ) → T (fits f x) → HasValue x false n 32 → mag f x * 32 ≡ n * 2 ^ low f
value-mag f nan n t v = absurd v
value-mag f (inf s) n t v = absurd v
value-mag f (fin s m e) n t v =
    let U = 2 ^ low f in
    let a = m * up e in
    let b = mag f (fin s m e) in
    eq_of_mul-eq-mul_right (down e) (down_pos e) (b * 32) (n * U)
    (mul_right_comm b 32 (down e) ∙ ap (λ (z : ℕ). z * 32) (sym (exact f s m e t)) ∙ mul_right_comm a U 32 ∙ ap (λ (z : ℕ). z * U) v.1 ∙ mul_right_comm n (down e) U)

-- n / 32 is held
grid-part : (f : Format) (n : ℕ) → n < 2 ^ prec f → grid f n 32 * 32 ≡ n * 2 ^ low f
grid-part f n h =
    ap (λ (z : ℕ). z * 32) (sym (round-mag f false n 32))
    ∙ value-mag f (round f false n 32) n (round-fits f false n 32)
    (round_exact f false n 32 n (low f - 5) (lit< tt) h (lt_of_le_of_lt (low-room f) (whole-lt f n (le_of_lt h))) (ap (λ (z : ℕ). n * z) (sym (unit f)) ∙ sym (mul_assoc n (2 ^ (low f - 5)) 32)))
  where
    unit : (f : Format) → 2 ^ (low f - 5) * 32 ≡ 2 ^ low f
    unit binary32 = refl
    unit binary64 = refl

    low-room : (f : Format) → n * 2 ^ (low f - 5) ≤ n * 2 ^ low f
    low-room f = omega (arith, ap (λ (z : ℕ). n * z) (unit f), mul_assoc n (2 ^ (low f - 5)) 32)

-- a fraction up to n / 32 rounds to no more than it
grid-le : (f : Format) (a c n : ℕ) → 0 < c → n < 2 ^ prec f → a * 32 ≤ n * c → grid f a c * 32 ≤ n * 2 ^ low f
grid-le f a c n C h l = le_trans (mul-le-mul_right 32 (grid_mono f a c n 32 C (lit< tt) l)) (le_of_eq (grid-part f n h))

-- what is held, and that small, is finite
parts : (f : Format) (n : ℕ) (x : Float) → n < 2 ^ prec f → T (fits f x) → mag f x * 32 ≤ n * 2 ^ low f → Parts f n x
parts f n x h t m = record { real = record { fit = t; fini = finite-of-mag f x (lt_of_le_of_lt (omega arith) (whole-lt f n (le_of_lt h))) }; size = m }

pub round-parts : (f : Format) (s : Bool) (a c n : ℕ) → 0 < c → n < 2 ^ prec f → a * 32 ≤ n * c → Parts f n (round f s a c)
round-parts f s a c n C h l = parts f n (round f s a c) h (round-fits f s a c) (rw (round-mag f s a c) (grid-le f a c n C h l))

signed : (f : Format) (x : Float) (k : ℕ) → over f x * 32 ≤ k → under f x * 32 ≤ k → mag f x * 32 ≤ k
unfolding over under
signed f x k = go (sgn x)
  where
    go : (s : Bool) → over_part s (mag f x) * 32 ≤ k → under_part s (mag f x) * 32 ≤ k → mag f x * 32 ≤ k
    go false o u = o
    go true o u = u

pub add_parts : (f : Format) (j k : ℕ) (x y : Float) → j + k < 2 ^ prec f → Parts f j x → Parts f k y → Parts f (j + k) (add f x y)
add_parts f j k x y h p q =
    let U = 2 ^ low f in
    let z = add f x y in
    let r = add_rounds f x y p.real q.real in
    let o : over f z * 32 ≤ (j + k) * U = rw r.0 (grid-le f _ U (j + k) (pow_pos (low f)) h (omega (arith, over-le f x, over-le f y, p.size, q.size))) in
    let u : under f z * 32 ≤ (j + k) * U = rw r.1 (grid-le f _ U (j + k) (pow_pos (low f)) h (omega (arith, under-le f x, under-le f y, p.size, q.size))) in
    parts f (j + k) z h (add-fits f x y) (signed f z ((j + k) * U) o u)

pub weaken-parts : {f : Format} {n : ℕ} {x : Float} (m : ℕ) → n ≤ m → Parts f n x → Parts f m x
weaken-parts {f} m h p = record { real = p.real; size = le_trans p.size (mul-le-mul_right (2 ^ low f) h) }

-- 0.0, from which a sum starts
pub zero-parts : Parts binary64 0 zero
unfolding mag fits
zero-parts = record { real = record { fit = tt; fini = tt }; size = lit≤ tt }

-- 32 / 32 is 1
pub parts_within : (f : Format) (n most : ℕ) (x : Float) → n ≤ most * 32 → Parts f n x → Within f most x
parts_within f n most x h p = record { real = p.real; size = let k = mul-le-mul_right (2 ^ low f) h in omega (arith, p.size) }
