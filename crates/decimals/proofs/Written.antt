-- Digits that are written from the last to the first, and how many there are. Assumes nothing.
use mathlib.Core.Path.{◌≡◌, refl, sym, ap, ◌∙◌}
use mathlib.Core.List.{List, [], ◌∷◌, ◌++◌, append_assoc}
use Prim.Native.Nat.{ℕ, zero, suc, ◌-◌, ◌/◌, ◌%◌, ◌^◌, ◌≤◌, ◌<◌}
use native.Mathlib.Nat.{not-suc-le-zero, pow-suc, div-lt_iff_lt-mul, zero-lt-suc}
use native.Mathlib.Numerals.{add-one, sub-one}
use native.Mathlib.Omega.{arith}
use lib.ListN.{length, drop, set, length-append}
use lib.Arith.{lt_of_le-ne}
use Rattle.std.proofs.lemmas.List.{drop-set}
use borrow.Author.Tests.{lt-ltb, le-ltb}
use Rattle.decimals.specs.Digits.{digit_of, digits_in, places, decimal_digits}

pub digits-length : (base count n : ℕ) → length (digits_in base count n) ≡ count
unfolding digits_in
digits-length base zero n = refl
digits-length base (suc count) n = length-append (digits_in base count (n / base)) (digit_of (n % base) ∷ []) ∙ rw (digits-length base count (n / base)) (add-one count)

-- the last digit stored, the others are still to come
pub digits-back : (base n i : ℕ) (out : List ℕ) → 0 < i → i ≤ length out
    → digits_in base (i - 1) (n / base) ++ drop (i - 1) (set out (i - 1) (digit_of (n % base))) ≡ digits_in base i n ++ drop i out
unfolding digits_in
digits-back base n zero out p h = absurd (not-suc-le-zero p)
digits-back base n (suc i) out p h =
    simp sub-one (rw (drop-set out i (digit_of (n % base)) h, append_assoc, add-one))

pub digits-done : (base n : ℕ) (out : List ℕ) → digits_in base 0 n ++ drop 0 out ≡ out
unfolding digits_in
digits-done base n out = refl

-- 10 divides out of a number of two digits or more
pub places-more : (more n : ℕ) → 10 ≤ n → places 10 (suc more) n ≡ suc (places 10 more (n / 10))
unfolding places
places-more more n h = rw (le-ltb n 10 h)

pub places-one : (more n : ℕ) → n < 10 → places 10 more n ≡ 1
unfolding places
places-one zero n h = refl
places-one (suc more) n h = rw (lt-ltb n 10 h)

pub tenth-lt : (k n : ℕ) → n < 10 ^ suc k → n / 10 < 10 ^ k
tenth-lt k n h = (div-lt_iff_lt-mul (zero-lt-suc 9)).1 (rw (pow-suc 10 k) at h)

-- a number of one digit at most has no more
pub not_last : (count n : ℕ) → count ≤ 20 → 10 ≤ n → n < 10 ^ (21 - count) → count < 20
not_last count n h k l = lt_of_le-ne h (λ e. one-digit n k (rw e at l))
  where
    one-digit : (n : ℕ) → 10 ≤ n → n < 10 ^ (21 - 20) → ⊥
    one-digit n k l = omega arith

-- the decimal digits of n, once they are counted
pub decimal-is : (n count : ℕ) → count ≡ places 10 19 n → decimal_digits n ≡ digits_in 10 count n
unfolding decimal_digits
decimal-is n count e = ap (λ (k : ℕ). digits_in 10 k n) (sym e)

pub decimal-length : (n count : ℕ) → count ≡ places 10 19 n → length (decimal_digits n) ≡ count
decimal-length n count e = ap length (decimal-is n count e) ∙ digits-length 10 count n
