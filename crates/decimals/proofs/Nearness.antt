-- `closest` gives the nearest whole number. Assumes nothing.
use mathlib.Core.Path.{◌≡◌, refl, subst}
use mathlib.Core.Logic.{◌⊎◌, inl, inr}
use mathlib.Core.Bool.{not}
use Prim.Native.Nat.{ℕ, zero, suc, ◌+◌, ◌*◌, ◌/◌, ◌%◌, ◌^◌, ◌≤◌, ◌<◌, compare, Ordering}
use native.Mathlib.Nat.{add-zero, div-add-mod', mod-lt}
use native.Mathlib.Numerals.{add-one}
use native.Mathlib.Omega.{arith}
use lib.Dec.{T, is_le, compare_is_eq, eqb, leb→le, nleb→lt, eqb→eq, eqb_refl}
use lib.Arith.{lt_of_le-ne}
use lib.Pow.{pow_pos}
use lib.Ieee.{binary64, nearest}
use lib.Ieee.Nearest.{closest}
use Rattle.doubles.specs.Size.{mag}
use Rattle.decimals.specs.Print.{millionths}
use Rattle.decimals.specs.Nearest.{NearestTo, MillionthsNearest}

-- the quotient q stays, or goes up by one
module _ (a b q r : ℕ) (e : q * b + r ≡ a) (h : r < b) where
  stays : r * 2 < b → NearestTo a b q
  stays l = record { above = omega arith; below = omega arith; tie = λ t. never t }
    where
      never : (2 * (q * b) ≡ 2 * a + b) ⊎ (2 * a ≡ 2 * (q * b) + b) → q % 2 ≡ 0
      never (inl t) = absurd (omega arith)
      never (inr t) = absurd (omega arith)

  rises : b < r * 2 → NearestTo a b (suc q)
  rises l = record { above = omega arith; below = omega arith; tie = λ t. never t }
    where
      never : (2 * (suc q * b) ≡ 2 * a + b) ⊎ (2 * a ≡ 2 * (suc q * b) + b) → suc q % 2 ≡ 0
      never (inl t) = absurd (omega arith)
      never (inr t) = absurd (omega arith)

  even : r * 2 ≡ b → q % 2 ≡ 0 → NearestTo a b q
  even l z = record { above = omega arith; below = omega arith; tie = λ t. z }

  odd : r * 2 ≡ b → q % 2 ≡ 1 → NearestTo a b (suc q)
  odd l z = record { above = omega arith; below = omega arith; tie = λ t. omega arith }

  ties : r * 2 ≡ b → NearestTo a b (q + q % 2)
  ties l = go (q % 2) refl (mod-lt q (omega arith))
    where
      go : (m : ℕ) → q % 2 ≡ m → m < 2 → NearestTo a b (q + m)
      go zero z k = rw (add-zero q) (even l z)
      go (suc zero) z k = rw (add-one q) (odd l z)
      go (suc (suc m)) z k = absurd (omega arith)

  decided : (o : Ordering) → (T (is_le o) → r * 2 ≤ b) → (T (not (is_le o)) → b < r * 2) → (T (compare_is_eq o) → r * 2 ≡ b) → (r * 2 ≡ b → T (compare_is_eq o)) → NearestTo a b (nearest q o)
  decided Ordering.lt f g u v = stays (lt_of_le-ne (f tt) v)
  decided Ordering.eq f g u v = ties (u tt)
  decided Ordering.gt f g u v = rises (g tt)

pub closest-nearest : (a b : ℕ) → 0 < b → NearestTo a b (closest a b)
closest-nearest a b B =
    decided a b (a / b) (a % b) (div-add-mod' a b) (mod-lt a B) (compare (a % b * 2) b) (leb→le (a % b * 2) b) (nleb→lt (a % b * 2) b) (eqb→eq (a % b * 2) b)
    (λ (e : a % b * 2 ≡ b). subst (λ (x : ℕ). T (eqb (a % b * 2) x)) e (eqb_refl (a % b * 2)))

-- less than a half is nearest to 0
pub closest-none : (a b : ℕ) → 2 * a < b → closest a b ≡ 0
closest-none a b h = none (closest a b) ((closest-nearest a b (omega arith)).above)
  where
    none : (n : ℕ) → 2 * (n * b) ≤ 2 * a + b → n ≡ 0
    none zero l = refl
    none (suc n) l = absurd (omega arith)

pub millionths-nearest : MillionthsNearest
unfolding millionths
millionths-nearest x = closest-nearest (mag binary64 x * 10 ^ 6) (2 ^ 1074) (pow_pos 1074)
