-- The size of a double by its bits: in millionths, and whether it has a text. Assumes nothing.
use mathlib.Core.Path.{◌≡◌, sym, ap, ◌∙◌, subst}
use mathlib.Core.Logic.{◌⊎◌, inl, inr}
use mathlib.Core.Bool.{Bool, true, false}
use Prim.Native.Nat.{ℕ, zero, suc, ◌+◌, ◌-◌, ◌*◌, ◌/◌, ◌%◌, ◌^◌, ◌≤◌, ◌<◌}
use native.Mathlib.Nat.{le_trans, le_of_eq, le_of_suc-le-suc, le-add_right, lt_of_lt_of_le, lt_of_le_of_lt, eq-or-lt_of_le, not-suc-le-zero, mod-eq_of_lt, mod-lt, mod-mod, add-sub_of_le, mul_assoc, mul_comm, mul-le-mul, mul-le-mul_left, mul-lt-mul_of_pos_right, zero-lt-suc, le-div_iff_mul-le, div-lt_iff_lt-mul}
use native.Mathlib.Omega.{arith}
use lib.Dec.{T, leb, lit≤}
use lib.Pow.{pow-add, pow_pos, pow_mono}
use borrow.Author.Tests.{le-leb, lt-leb}
use lib.Ieee.{Float, binary64, of_fields, of_bits, to_bits, fits}
use lib.Ieee.Bits.{of_bits-to_bits}
use lib.Ieee.Nearest.{closest, closest_same}
use Rattle.doubles.specs.Size.{sgn, mag}
use Rattle.doubles.proofs.Fields.{low-size, normal-size, top-size, same_size, bits-fields, field-most}
use Rattle.decimals.specs.Print.{millionths, unprintable}
use Rattle.decimals.proofs.Nearness.{closest-none}

-- ---- the millionths of a significand
module _ (m shift : ℕ) (h : m < 2 ^ 53) where
  few : m * 1000000 < 2 ^ 73
  few = lt_of_lt_of_le (mul-lt-mul_of_pos_right h (zero-lt-suc 999999)) (lit≤ tt)

  pub none-left : 74 ≤ shift → closest (m * 1000000) (2 ^ shift) ≡ 0
  none-left l =
      let twice : 2 ^ 74 ≤ 2 ^ shift = pow_mono l in
      closest-none (m * 1000000) (2 ^ shift) (omega arith)

  pub quotient-room : 10 ≤ shift → m * 1000000 / 2 ^ shift < 2 ^ 63
  quotient-room l =
      let same : 2 ^ (63 + shift) ≡ 2 ^ 63 * 2 ^ shift = pow-add 2 63 shift in
      let up : 73 ≤ 63 + shift = omega arith in
      let less : 2 ^ 73 ≤ 2 ^ (63 + shift) = pow_mono up in
      (div-lt_iff_lt-mul (pow_pos shift)).1 (omega arith)

-- ---- m * 2 ^ x units of 2 ^ -n, in parts of c
shift_same : (m c x n : ℕ) → x ≤ n → closest (m * c) (2 ^ (n - x)) ≡ closest (m * 2 ^ x * c) (2 ^ n)
shift_same m c x n h =
    closest_same (m * c) (2 ^ (n - x)) (m * 2 ^ x * c) (2 ^ n) (pow_pos (n - x)) (pow_pos n)
    (ap (λ (k : ℕ). m * c * 2 ^ k) (sym (add-sub_of_le h)) ∙ rw (pow-add 2 x (n - x)) (simp (mul_assoc, mul_comm)))

module _ (b : ℕ) (small : b < 1066 * 2 ^ 52) where
  within : b < 2 ^ 63
  within = lt_of_lt_of_le small (lit≤ tt)

  fields-are : of_bits binary64 b ≡ of_fields binary64 (leb (2 ^ 63) b) (b / 2 ^ 52) (b % 2 ^ 52)
  fields-are = bits-fields binary64 b ∙ ap (λ (k : ℕ). of_fields binary64 (leb (2 ^ 63) b) (k / 2 ^ 52) (b % 2 ^ 52)) (mod-eq_of_lt within)

  pub low-millionths : b / 2 ^ 52 ≡ 0 → closest (b % 2 ^ 52 * 10 ^ 6) (2 ^ 1074) ≡ millionths (of_bits binary64 b)
  unfolding millionths
  low-millionths e =
      let size = (low-size binary64 (leb (2 ^ 63) b) (b % 2 ^ 52)).1 in
      sym (ap (λ (x : Float). closest (mag binary64 x * 10 ^ 6) (2 ^ 1074)) (fields-are ∙ ap (λ (k : ℕ). of_fields binary64 (leb (2 ^ 63) b) k (b % 2 ^ 52)) e)
      ∙ ap (λ (n : ℕ). closest (n * 10 ^ 6) (2 ^ 1074)) size)

  pub normal-millionths : (b / 2 ^ 52 ≡ 0 → ⊥) → closest ((2 ^ 52 + b % 2 ^ 52) * 10 ^ 6) (2 ^ (1075 - b / 2 ^ 52)) ≡ millionths (of_bits binary64 b)
  unfolding millionths
  normal-millionths some =
      let few : b / 2 ^ 52 < 1066 = (div-lt_iff_lt-mul (pow_pos 52)).1 small in
      let x = b / 2 ^ 52 - 1 in
      let e : b / 2 ^ 52 ≡ suc x = omega arith in
      let k : 1075 - b / 2 ^ 52 ≡ 1074 - x = omega arith in
      let size = (normal-size binary64 (leb (2 ^ 63) b) x (b % 2 ^ 52) (lt_of_lt_of_le (subst (◌< 1066) e few) (lit≤ tt))).1 in
      ap (λ (n : ℕ). closest ((2 ^ 52 + b % 2 ^ 52) * 10 ^ 6) (2 ^ n)) k
      ∙ shift_same (2 ^ 52 + b % 2 ^ 52) (10 ^ 6) x 1074 (omega arith)
      ∙ sym (ap (λ (y : Float). closest (mag binary64 y * 10 ^ 6) (2 ^ 1074)) (fields-are ∙ ap (λ (n : ℕ). of_fields binary64 (leb (2 ^ 63) b) n (b % 2 ^ 52)) e)
      ∙ ap (λ (n : ℕ). closest (n * 10 ^ 6) (2 ^ 1074)) size)

-- ---- from 2 ^ 43 on
size-large : (s : Bool) (x t : ℕ) → 1066 ≤ x → x ≤ 2047 → 2 ^ 43 * 2 ^ 1074 ≤ mag binary64 (of_fields binary64 s x t)
size-large s zero t h l = absurd (not-suc-le-zero h)
size-large s (suc x) t h l = go (eq-or-lt_of_le l)
  where
    limit : 2 ^ 43 * 2 ^ 1074 ≤ 2 ^ 52 * 2 ^ 1065
    limit = lit≤ tt

    go : (suc x ≡ 2047) ⊎ (suc x < 2047) → 2 ^ 43 * 2 ^ 1074 ≤ mag binary64 (of_fields binary64 s (suc x) t)
    go (inl e) = le_trans (lit≤ tt) (le_of_eq (sym (top-size binary64 s x t e)))
    go (inr k) =
        le_trans limit
        (le_trans (mul-le-mul (le-add_right (2 ^ 52) t) (pow_mono (le_of_suc-le-suc h))) (le_of_eq (sym (normal-size binary64 s x t k).1)))

size_small : (s : Bool) (x t : ℕ) → x < 1066 → t < 2 ^ 52 → mag binary64 (of_fields binary64 s x t) < 2 ^ 43 * 2 ^ 1074
size_small s zero t h l = lt_of_le_of_lt (le_of_eq (low-size binary64 s t).1) (lt_of_lt_of_le l (lit≤ tt))
size_small s (suc x) t h l =
    lt_of_le_of_lt (le_of_eq (normal-size binary64 s x t (lt_of_lt_of_le h (lit≤ tt))).1)
    (lt_of_lt_of_le (mul-lt-mul_of_pos_right (with_lead l) (pow_pos x)) (le_trans (mul-le-mul_left (2 ^ 53) (pow_mono (most h))) limit))
  where
    with_lead : t < 2 ^ 52 → 2 ^ 52 + t < 2 ^ 53
    with_lead l = omega arith

    most : suc x < 1066 → x ≤ 1064
    most h = omega arith

    limit : 2 ^ 53 * 2 ^ 1064 ≤ 2 ^ 43 * 2 ^ 1074
    limit = lit≤ tt

sign_small : (s : Bool) (x t : ℕ) → x < 1066 → sgn (of_fields binary64 s x t) ≡ s
sign_small s zero t h = (low-size binary64 s t).0
sign_small s (suc x) t h = (normal-size binary64 s x t (lt_of_lt_of_le h (lit≤ tt))).0

module _ (x : Float) (fit : T (fits binary64 x)) (b : ℕ) (e : b ≡ to_bits binary64 x) where
  x-is : x ≡ of_fields binary64 (leb (2 ^ 63) b) (b % 2 ^ 63 / 2 ^ 52) (b % 2 ^ 52)
  x-is = sym (of_bits-to_bits binary64 x fit) ∙ ap (of_bits binary64) (sym e) ∙ bits-fields binary64 b

  pub too_large : 1066 * 2 ^ 52 ≤ b % 2 ^ 63 → unprintable x ≡ true
  too_large h =
      le-leb (2 ^ 43 * 2 ^ 1074) (mag binary64 x)
      (subst (λ (y : Float). 2 ^ 43 * 2 ^ 1074 ≤ mag binary64 y) (sym x-is) (size-large (leb (2 ^ 63) b) (b % 2 ^ 63 / 2 ^ 52) (b % 2 ^ 52) ((le-div_iff_mul-le (pow_pos 52)).1 h) (field-most binary64 b)))

  module _ (h : b % 2 ^ 63 < 1066 * 2 ^ 52) where
    low_field : b % 2 ^ 63 / 2 ^ 52 < 1066
    low_field = (div-lt_iff_lt-mul (pow_pos 52)).1 h

    pub not-too-large : unprintable x ≡ false
    not-too-large =
        lt-leb (2 ^ 43 * 2 ^ 1074) (mag binary64 x)
        (subst (λ (y : Float). mag binary64 y < 2 ^ 43 * 2 ^ 1074) (sym x-is) (size_small (leb (2 ^ 63) b) (b % 2 ^ 63 / 2 ^ 52) (b % 2 ^ 52) low_field (mod-lt b (pow_pos 52))))

    pub sign-is : sgn x ≡ leb (2 ^ 63) b
    sign-is = ap sgn x-is ∙ sign_small (leb (2 ^ 63) b) (b % 2 ^ 63 / 2 ^ 52) (b % 2 ^ 52) low_field

    pub millionths-are : millionths (of_bits binary64 (b % 2 ^ 63)) ≡ millionths x
    unfolding millionths
    millionths-are =
        let s = leb (2 ^ 63) (b % 2 ^ 63) in
        let y : of_bits binary64 (b % 2 ^ 63) ≡ of_fields binary64 s (b % 2 ^ 63 / 2 ^ 52) (b % 2 ^ 52) =
        bits-fields binary64 (b % 2 ^ 63) ∙ rw (mod-mod b (2 ^ 63), digits) in
        ap (λ (n : ℕ). closest (n * 10 ^ 6) (2 ^ 1074))
        (ap (mag binary64) y ∙ same_size binary64 s (leb (2 ^ 63) b) (b % 2 ^ 63 / 2 ^ 52) (b % 2 ^ 52) (field-most binary64 b) ∙ ap (mag binary64) (sym x-is))
      where
        digits : b % 2 ^ 63 % 2 ^ 52 ≡ b % 2 ^ 52
        digits = omega arith
