-- A quotient by digits of nine bits. Assumes nothing.
use mathlib.Core.Path.{◌≡◌}
use Prim.Native.Nat.{ℕ, ◌+◌, ◌*◌, ◌/◌, ◌%◌, ◌^◌, ◌≤◌, ◌<◌}
use native.Mathlib.Nat.{mod-lt, mul-lt-mul_of_pos_right, lt_of_lt_of_le, pow-suc, pow-le-pow_right, div-add-mod', div-lt_iff_lt-mul}
use native.Mathlib.Numerals.{add-one}
use native.Mathlib.Omega.{arith}
use lib.Dec.{lit<}

-- after i digits
pub record Digits (d a q r i : ℕ) : Type 0 where
  pub places : i ≤ 6
  pub rest : r < a
  pub value : q * a + r ≡ d * 512 ^ i
  pub digits : q < 512 ^ i

digits-alg : (d a q r p x y : ℕ) → q * a + r ≡ d * p → x * a + y ≡ r * 512 → (q * 512 + x) * a + y ≡ d * (p * 512)
digits-alg d a q r p x y e f = omega arith

pub digit_lt : (a r : ℕ) → r < a → r * 512 / a < 512
digit_lt a r h = (div-lt_iff_lt-mul {k = a} {x = r * 512} {y = 512} (omega arith)).1 (omega (arith, mul-lt-mul_of_pos_right {k = 512} h (lit< tt)))

pub digits_more : (d a q r i : ℕ) → i < 6 → Digits d a q r i → Digits d a (q * 512 + r * 512 / a) (r * 512 % a) (i + 1)
digits_more d a q r i h g =
    let x : r * 512 / a < 512 = digit_lt a r g.rest in
    record {
      places = omega arith;
      rest = mod-lt (r * 512) (omega (arith, g.rest));
      value = rw (add-one i, pow-suc 512 i) (digits-alg d a q r (512 ^ i) (r * 512 / a) (r * 512 % a) g.value (div-add-mod' (r * 512) a));
      digits = rw (add-one i, pow-suc 512 i) (omega (arith, g.digits));
    }

pub digits-small : (d a q r i : ℕ) → i < 6 → Digits d a q r i → q < 2 ^ 45
digits-small d a q r i h g = lt_of_lt_of_le g.digits (pow-le-pow_right {n = 512} (lit< tt) {j = 5} (omega arith))
