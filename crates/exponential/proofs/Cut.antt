-- The size of a double in units of 2^-46. Assumes nothing.
use mathlib.Core.Path.{◌≡◌, refl, sym, ap, ap₂, ◌∙◌, subst}
use mathlib.Core.Logic.{◌⊎◌, inl, inr}
use mathlib.Core.Bool.{true≢false, Bool, true, false, ◌&&◌, ◌||◌, cond}
use Prim.Native.Nat.{ℕ, zero, suc, ◌+◌, ◌-◌, ◌*◌, ◌/◌, ◌%◌, ◌^◌, ◌≤◌, ◌<◌, zero-le}
use native.Mathlib.Nat.{le_trans, le_of_eq, le_of_lt, lt_of_lt_of_le, lt_of_le_of_lt, not-le_of_lt, lt_of_not-le, mul-le-mul, mul-le-mul_right, le_of_mul-le-mul_right, mul-one, mul_assoc, mul_right_comm, div-mul-le_self, lt-div-mul-add, add_comm}
use native.Mathlib.Omega.{arith}
use lib.IntN.{pos}
use lib.Dec.{T, ltb, leb, eqb, ltb→lt, eqb→eq, lit≤, lit<}
use lib.Pow.{pow_pos, pow_mono, pow-add, mod-mod-pow}
use lib.Ieee.{Float, nan, inf, fin, binary64, ones, up, down, odd, lt, eq, le, fits, of_fields, of_bits, to_bits}
use lib.Ieee.Bits.{of_bits-to_bits}
use lib.Ieee.Fits.{and_l}
use lib.Ieee.Exact.{HasValue, odd_sign}
use lib.Ieee.Scale.{finite}
use lib.Ieee.Positive.{num, den, den_pos}
use Rattle.exponential.specs.Near.{least_argument, most_argument, has_exponential}
use Rattle.exponential.specs.Parts.{Cut}

-- ---- the range
least-is : least_argument ≡ fin true 625 (pos 7)
unfolding least_argument
least-is = refl

most-is : most_argument ≡ fin false 625 (pos 7)
unfolding most_argument
most-is = refl

or_split : (a b : Bool) → T (a || b) → T a ⊎ T b
or_split true b t = inl tt
or_split false b t = inr t

reach : (a b : ℕ) (c : Bool) → T (ltb a b || (eqb a b && c)) → a ≤ b
reach a b c t = elim (or_split (ltb a b) (eqb a b && c) t) [ inl u ↦ le_of_lt (ltb→lt a b u) | inr u ↦ le_of_eq (eqb→eq a b (and_l (eqb a b) c u)) ]

reach' : (a b : ℕ) (c : Bool) → T (ltb a b || (eqb b a && c)) → a ≤ b
reach' a b c t = elim (or_split (ltb a b) (eqb b a && c) t) [ inl u ↦ le_of_lt (ltb→lt a b u) | inr u ↦ le_of_eq (sym (eqb→eq b a (and_l (eqb b a) c u))) ]

within-plain : (x : Float) → T (le (fin true 625 (pos 7)) x) → T (le x (fin false 625 (pos 7))) → T (finite x) × (num x ≤ 80000 * den x)
unfolding le lt eq
within-plain nan l h = absurd h
within-plain (inf true) l h = absurd l
within-plain (inf false) l h = absurd h
within-plain (fin false m e) l h = (tt, le_trans (le_of_eq (sym (mul-one (m * up e)))) (reach (m * up e * 1) (80000 * down e) _ h))
within-plain (fin true m e) l h = (tt, le_trans (le_of_eq (sym (mul-one (m * up e)))) (reach' (m * up e * 1) (80000 * down e) _ l))

both : (a b : Bool) → (a && b) ≡ true → (a ≡ true) × (b ≡ true)
both true b e = (refl, e)
both false b e = absurd (true≢false (sym e))

pub inside : (x : Float) → has_exponential x ≡ true → T (finite x) × (num x ≤ 80000 * den x)
inside x e =
    let ends = both (le least_argument x) (le x most_argument) e in
    within-plain x (subst T (sym (rw least-is at ends.0)) tt) (subst T (sym (rw most-is at ends.1)) tt)

-- ---- the size that the fields give, in units of 2^-1074
pub field_size : ℕ → ℕ → ℕ
field_size zero t = t * 2 ^ 0
field_size (suc e) t = (2 ^ 52 + t) * 2 ^ e

cross : (x : Float) (s : Bool) (a c : ℕ) → HasValue x s a c → num x * c ≡ a * den x
cross nan s a c v = absurd v
cross (inf t) s a c v = absurd v
cross (fin t m e) s a c v = v.1

fields-size : (s : Bool) (y t : ℕ) → T (finite (of_fields binary64 s y t)) → num (of_fields binary64 s y t) * 2 ^ 1074 ≡ field_size y t * den (of_fields binary64 s y t)
unfolding of_fields field_size
fields-size s zero t p = cross (odd 53 s t 0 1074) s (t * 2 ^ 0) (2 ^ 1074) (odd_sign 53 s t 0 1074)
fields-size s (suc x) t p = go (eqb (suc x) (ones binary64)) (eqb t 0) p
  where
    go : (b c : Bool) → T (finite (cond b (cond c (inf s) nan) (odd 53 s (2 ^ 52 + t) x 1074))) → num (cond b (cond c (inf s) nan) (odd 53 s (2 ^ 52 + t) x 1074)) * 2 ^ 1074 ≡ (2 ^ 52 + t) * 2 ^ x * den (cond b (cond c (inf s) nan) (odd 53 s (2 ^ 52 + t) x 1074))
    go true true p = absurd p
    go true false p = absurd p
    go false c p = cross (odd 53 s (2 ^ 52 + t) x 1074) s ((2 ^ 52 + t) * 2 ^ x) (2 ^ 1074) (odd_sign 53 s (2 ^ 52 + t) x 1074)

pub sized : (x : Float) → T (fits binary64 x) → T (finite x) → num x * 2 ^ 1074 ≡ field_size (to_bits binary64 x % 2 ^ 63 / 2 ^ 52) (to_bits binary64 x % 2 ^ 63 % 2 ^ 52) * den x
unfolding of_bits
sized x f p =
    let b = to_bits binary64 x in
    let e : of_bits binary64 b ≡ x = of_bits-to_bits binary64 x f in
    let g = fields-size (leb (2 ^ 63) b) (b % 2 ^ 63 / 2 ^ 52) (b % 2 ^ 52) (subst (λ (z : Float). T (finite z)) (sym e) p) in
    rw (mod-mod-pow b 11 52) (subst (λ (z : Float). num z * 2 ^ 1074 ≡ field_size (b % 2 ^ 63 / 2 ^ 52) (b % 2 ^ 52) * den z) e g)

-- ---- cut to units of 2^-46
cut-alg : (n d s y z A B : ℕ) → 0 < A → n * (B * A) ≡ s * d → y * A ≤ s → s ≤ z * A → (y * d ≤ n * B) × (n * B ≤ z * d)
cut-alg n d s y z A B P e h g = (
  le_of_mul-le-mul_right {k = A} (omega (arith, mul-le-mul_right d h)) P,
  le_of_mul-le-mul_right {k = A} (omega (arith, mul-le-mul_right d g)) P,
)

module _ (x : Float) (E t : ℕ) (e : num x * 2 ^ 1074 ≡ field_size E t * den x) (r : num x ≤ 80000 * den x) where
  make : (y : ℕ) → y * 2 ^ 1028 ≤ field_size E t → field_size E t ≤ (y + 1) * 2 ^ 1028 → Cut x y
  make y h g =
      let c = cut-alg (num x) (den x) (field_size E t) y (y + 1) (2 ^ 1028) (2 ^ 46) (pow_pos 1028) e h g in
      record {
        small = le_of_mul-le-mul_right {k = den x} (omega (arith, c.0)) (den_pos x);
        under = c.0;
        above = c.1;
      }

  most-size : field_size E t ≤ 80000 * 2 ^ 1074
  most-size = le_of_mul-le-mul_right {k = den x} (le_trans (le_of_eq (sym e)) (le_trans (mul-le-mul_right (2 ^ 1074) r) (le_of_eq (mul_right_comm 80000 (den x) (2 ^ 1074))))) (den_pos x)

module _ (x : Float) (t : ℕ) (r : num x ≤ 80000 * den x) (T52 : t < 2 ^ 52) where
  pub exponent-most : (E : ℕ) → num x * 2 ^ 1074 ≡ field_size E t * den x → E ≤ 1039
  unfolding field_size
  exponent-most zero e = zero-le
  exponent-most (suc y) e = lt_of_not-le (λ (g : 1039 ≤ y).
      not-le_of_lt (lt_of_lt_of_le (lit< {m = 80000 * 2 ^ 1074} {n = 2 ^ 52 * 2 ^ 1039} tt) (mul-le-mul {n₁ = 2 ^ 52} {m₁ = 2 ^ 1039} (omega arith) (pow_mono g))) (most-size x (suc y) t e r))

  pub cut-none : (E : ℕ) → num x * 2 ^ 1074 ≡ field_size E t * den x → E < 977 → Cut x 0
  unfolding field_size
  cut-none zero e h = make x 0 t e r 0 zero-le (le_trans (mul-le-mul_right (2 ^ 0) (le_of_lt T52)) (lit≤ tt))
  cut-none (suc y) e h = make x (suc y) t e r 0 zero-le (le_trans (mul-le-mul {n₂ = 2 ^ 53} {m₂ = 2 ^ 975} (omega arith) (pow_mono {i = y} {j = 975} (omega arith))) (lit≤ tt))

  part-alg : (m q s a : ℕ) → q * s ≤ m → m < q * s + s → (q * (s * a) ≤ m * a) × (m * a ≤ (q + 1) * (s * a))
  part-alg m q s a h g = (omega (arith, mul-le-mul_right a h), omega (arith, mul-le-mul_right a (le_of_lt g)))

  pub cut-part : (E : ℕ) → num x * 2 ^ 1074 ≡ field_size E t * den x → 977 ≤ E → E < 1029 → Cut x ((t + 2 ^ 52) / 2 ^ (1029 - E))
  unfolding field_size
  cut-part zero e l h = absurd (not-le_of_lt (lit< tt) l)
  cut-part (suc y) e l h =
      let k = 1029 - suc y in
      let m = 2 ^ 52 + t in
      let a = part-alg m ((t + 2 ^ 52) / 2 ^ k) (2 ^ k) (2 ^ y) (le_trans (div-mul-le_self (t + 2 ^ 52) (2 ^ k)) (omega arith)) (lt_of_le_of_lt (le_of_eq (add_comm (2 ^ 52) t)) (lt-div-mul-add (pow_pos k))) in
      let f : k + y ≡ 1028 = omega arith in
      let s : 2 ^ k * 2 ^ y ≡ 2 ^ 1028 = sym (pow-add 2 k y) ∙ ap (λ (z : ℕ). 2 ^ z) f in
      make x (suc y) t e r ((t + 2 ^ 52) / 2 ^ k) (rw s at a.0) (rw s at a.1)

  pub cut-whole : (E : ℕ) → num x * 2 ^ 1074 ≡ field_size E t * den x → 1029 ≤ E → Cut x ((t + 2 ^ 52) * 2 ^ (E - 1029))
  unfolding field_size
  cut-whole zero e l = absurd (not-le_of_lt (lit< tt) l)
  cut-whole (suc y) e l =
      let k = suc y - 1029 in
      let f : k + 1028 ≡ y = omega arith in
      let s : (t + 2 ^ 52) * 2 ^ k * 2 ^ 1028 ≡ (2 ^ 52 + t) * 2 ^ y = mul_assoc (t + 2 ^ 52) (2 ^ k) (2 ^ 1028) ∙ ap₂ ◌*◌ (add_comm t (2 ^ 52)) (sym (pow-add 2 k 1028) ∙ ap (λ (z : ℕ). 2 ^ z) f) in
      make x (suc y) t e r ((t + 2 ^ 52) * 2 ^ k) (le_of_eq s) (le_trans (le_of_eq (sym s)) (mul-le-mul_right (2 ^ 1028) (omega arith)))
