-- How far one rounding moves a value: by half a unit of its last digit at most. Below 2 ^ K units the last of `prec` digits is worth 2 ^ (K - prec) units at
-- most. Assumes nothing.
use mathlib.Core.Path.{◌≡◌, sym, ap, ◌∙◌, subst}
use mathlib.Core.Bool.{false, not}
use Prim.Native.Nat.{ℕ, zero, suc, ◌+◌, ◌-◌, ◌*◌, ◌/◌, ◌%◌, ◌^◌, ◌≤◌, ◌<◌, compare, Ordering}
use native.Mathlib.Nat.{le_trans, le_of_eq, mul_comm, mul_left_comm, mul_assoc, mul_right_comm, add-mul, mul-le-mul_right, mul-pos, div-add-mod', mod-lt, div-lt_iff_lt-mul, lt_of_le_of_lt, mul-lt-mul_of_pos_right, zero-mul, pow-suc}
use native.Mathlib.Omega.{arith}
use native.Mathlib.Decide.{dec_lt}
use lib.Dec.{T, is_le, compare_is_eq, eqb, leb→le, nleb→lt, eqb→eq, eqb_refl}
use lib.Arith.{lt_of_le-ne}
use lib.Pow.{pow_pos, pow_mono}
use lib.Ieee.{Float, Format, prec, low, size, nearest, round}
use lib.Ieee.Digits.{size-le}
use lib.Ieee.Nearest.{closest}
use lib.Ieee.Order.{drop}
use lib.Ieee.Scale as Scale
use Rattle.doubles.specs.Size.{mag}
use Rattle.doubles.specs.Order.{over, under}
use Rattle.doubles.specs.Near.{NearFraction}
use Rattle.doubles.proofs.Size.{grid, round-mag, grid-zero, grid-le, finite-of-mag, whole-lt, unit-mag}
use Rattle.doubles.proofs.Sums.{Rounds}

-- ---- a fraction rounded to a whole number

-- what a comparison says
abbrev Compared : Ordering → ℕ → ℕ → Type 0
Compared Ordering.lt a b = a < b
Compared Ordering.eq a b = a ≡ b
Compared Ordering.gt a b = b < a

compared : (a b : ℕ) → Compared (compare a b) a b
compared a b = go (compare a b) (leb→le a b) (nleb→lt a b) (eqb→eq a b) (λ (e : a ≡ b). subst (λ (x : ℕ). T (eqb a x)) e (eqb_refl a))
  where
    go : (o : Ordering) → (T (is_le o) → a ≤ b) → (T (not (is_le o)) → b < a) → (T (compare_is_eq o) → a ≡ b) → (a ≡ b → T (compare_is_eq o)) → Compared o a b
    go Ordering.lt h k e n = lt_of_le-ne (h tt) n
    go Ordering.eq h k e n = e tt
    go Ordering.gt h k e n = k tt

-- x and y are at most half of d apart
record Halves (x y d : ℕ) : Type 0 where
  above : x * 2 ≤ y * 2 + d
  below : y * 2 ≤ x * 2 + d

-- a / b rounded to a whole number is off by a half at most
closest-near : (a b : ℕ) → 0 < b → Halves (closest a b * b) a b
closest-near a b B = go (compare (a % b * 2) b) (compared (a % b * 2) b)
  where
    q : ℕ
    q = a / b

    rest : a % b < b
    rest = mod-lt a B

    whole : q * b + a % b ≡ a
    whole = div-add-mod' a b

    tie : (t : ℕ) → t < 2 → a % b * 2 ≡ b → Halves ((q + t) * b) a b
    tie zero h e = let p : (q + 0) * b ≡ q * b + 0 * b = add-mul q 0 b in record { above = omega (arith, whole); below = omega (arith, whole) }
    tie (suc zero) h e = let p : (q + 1) * b ≡ q * b + 1 * b = add-mul q 1 b in record { above = omega (arith, whole); below = omega (arith, whole) }
    tie (suc (suc t)) h e = absurd (omega arith)

    go : (o : Ordering) → Compared o (a % b * 2) b → Halves (nearest q o * b) a b
    go Ordering.lt h = record { above = omega (arith, whole); below = omega (arith, whole) }
    go Ordering.eq h = tie (q % 2) (omega arith) h
    go Ordering.gt h = let p : suc q * b ≡ q * b + b = omega arith in record { above = omega (arith, whole); below = omega (arith, whole, rest) }

-- ---- a fraction rounded to the digits of a format

dropped : (p n c K : ℕ) → 0 < c → n < 2 ^ K * c → drop p n c ≤ K - p
dropped p n c K C h = let s : size (n / c) ≤ K = size-le (n / c) K ((div-lt_iff_lt-mul C).1 h) in omega arith

digits-near : (f : Format) (a c K : ℕ) → 0 < c → a * 2 ^ low f < 2 ^ K * c → Halves (Scale.grid f a c * c) (a * 2 ^ low f) (c * 2 ^ (K - prec f))
digits-near f a c K C h =
    let n = a * 2 ^ low f in
    let k = drop (prec f) n c in
    let w = closest-near n (c * 2 ^ k) (mul-pos C (pow_pos k)) in
    let e : closest n (c * 2 ^ k) * 2 ^ k * c ≡ closest n (c * 2 ^ k) * (c * 2 ^ k) = mul_assoc (closest n (c * 2 ^ k)) (2 ^ k) c ∙ ap (λ (z : ℕ). closest n (c * 2 ^ k) * z) (mul_comm (2 ^ k) c) in
    let l : c * 2 ^ k ≤ c * 2 ^ (K - prec f) = le_trans (le_of_eq (mul_comm c (2 ^ k))) (le_trans (mul-le-mul_right c (pow_mono (dropped (prec f) n c K C h))) (le_of_eq (mul_comm (2 ^ (K - prec f)) c))) in
    record {
      above = le_trans (le_of_eq (ap (λ (z : ℕ). z * 2) e)) (le_trans w.above (omega arith));
      below = le_trans w.below (omega arith);
    }

grid-is : (f : Format) (a c n : ℕ) → 0 < c → n ≤ 2 ^ prec f → a ≤ n * c → grid f a c ≡ Scale.grid f a c
grid-is f a c n C N h =
    let small : mag f (round f false a c) < Scale.overflow f = lt_of_le_of_lt (le_trans (le_of_eq (round-mag f false a c)) (grid-le f a c n C N h)) (whole-lt f n N) in
    sym (round-mag f false a c)
    ∙ unit-mag f (round f false a c) false (Scale.grid f a c) (Scale.round_val f a c (Scale.round_under f a c (finite-of-mag f (round f false a c) small)))

-- of a fraction that is at most n, where n is below 2 ^ K units
size-near : (f : Format) (a c n K : ℕ) → 0 < c → n ≤ 2 ^ prec f → n * 2 ^ low f < 2 ^ K → a ≤ n * c → Halves (grid f a c * c) (a * 2 ^ low f) (c * 2 ^ (K - prec f))
size-near f a c n K C N k h =
    let U = 2 ^ low f in
    let below : a * U < 2 ^ K * c =
    lt_of_le_of_lt (le_trans (mul-le-mul_right U h) (le_of_eq (mul_right_comm n c U))) (mul-lt-mul_of_pos_right k C) in
    rw (grid-is f a c n C N h) (digits-near f a c K C below)

-- ---- a signed fraction

part-sub : (p n U : ℕ) → n ≤ p → (p - n) * U + n * U ≡ p * U
part-sub p n U h = sym (add-mul (p - n) n U) ∙ ap (λ (z : ℕ). z * U) (let e : p - n + n ≡ p = omega arith in e)

none_left : (f : Format) (a c : ℕ) → 0 < c → a ≡ 0 → grid f a c * c ≡ 0
none_left f a c C e = ap (λ (z : ℕ). z * c) (ap (λ (k : ℕ). grid f k c) e ∙ grid-zero f c C) ∙ zero-mul c

-- half of 2 ^ (K - p), where K is above p
halved : (c K p : ℕ) → p < K → c * 2 ^ (K - p) ≡ 2 ^ (K - suc p) * c * 2
halved c K p h = ap (λ (k : ℕ). c * 2 ^ k) (let e : K - p ≡ suc (K - suc p) = omega arith in e) ∙ simp (pow-suc, mul_comm, mul_left_comm)

-- (p − n) / c, at most A in size, rounded: with A below 2 ^ K units it is off by at most half of 2 ^ (K - prec)
pub rounds-near : (f : Format) (z : Float) (p n c A K : ℕ) → 0 < c → A ≤ 2 ^ prec f → prec f < K → A * 2 ^ low f < 2 ^ K → p ≤ A * c → n ≤ A * c → Rounds f z p n c
    → NearFraction f (2 ^ (K - suc (prec f))) z p n c
rounds-near f z p n c A K C N P k hp hn r = go (dec_lt p n)
  where
    U : ℕ
    U = 2 ^ low f

    half : c * 2 ^ (K - prec f) ≡ 2 ^ (K - suc (prec f)) * c * 2
    half = halved c K (prec f) P

    o : over f z * c ≡ grid f (p - n) c * c
    o = ap (λ (g : ℕ). g * c) r.0

    u : under f z * c ≡ grid f (n - p) c * c
    u = ap (λ (g : ℕ). g * c) r.1

    up : Halves (grid f (p - n) c * c) ((p - n) * U) (c * 2 ^ (K - prec f))
    up = size-near f (p - n) c A K C N k (omega arith)

    down : Halves (grid f (n - p) c * c) ((n - p) * U) (c * 2 ^ (K - prec f))
    down = size-near f (n - p) c A K C N k (omega arith)

    go : Dec (p < n) → NearFraction f (2 ^ (K - suc (prec f))) z p n c
    go (yes h) =
        let none = none_left f (p - n) c C (omega arith) in
        let e : (n - p) * U + p * U ≡ n * U = part-sub n p U (omega arith) in
        record { above = omega (arith, half, o, u, none, e, down.above, down.below); below = omega (arith, half, o, u, none, e, down.above, down.below) }
    go (no h) =
        let none = none_left f (n - p) c C (omega arith) in
        let e : (p - n) * U + n * U ≡ p * U = part-sub p n U (omega arith) in
        record { above = omega (arith, half, o, u, none, e, up.above, up.below); below = omega (arith, half, o, u, none, e, up.above, up.below) }
