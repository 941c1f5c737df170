-- What bytes are worth as digits, and numbers by their digits. Assumes nothing.
use mathlib.Core.Path.{◌≡◌, refl, sym, ap, ◌∙◌}
use mathlib.Core.Bool.{Bool, true, false, not, ◌&&◌}
use mathlib.Core.Logic.{◌⊎◌, inl, inr}
use mathlib.Core.List.{List, [], ◌∷◌, ◌++◌}
use Prim.Native.Nat.{ℕ, suc, ◌+◌, ◌-◌, ◌*◌, ◌/◌, ◌^◌, ◌≤◌, ◌<◌, min}
use native.Mathlib.Nat.{le_trans, le_of_eq, le_of_lt, lt_of_lt_of_le, mul-one, mul-le-mul_left, mul-le-mul_right, pow-zero, pow-succ', mul_assoc, div-lt_iff_lt-mul, le-div_iff_mul-le, min-eq_left, min-eq_right, zero-lt-suc}
use native.Mathlib.Numerals.{add-one}
use native.Mathlib.Omega.{arith}
use lib.Dec.{T, leb, ltb, ltb→lt, nltb→le}
use lib.ListN.{length, get_or, drop}
use lib.Seq.{drop-cons}
use borrow.Author.Tests.{le-leb, lt-leb, leb-false}
use Rattle.decimals.specs.Digits.{among, digit_value, not_digit, numeral}

-- ---- a byte
inside : (first last b : ℕ) → first ≤ b → b ≤ last → among first last b ≡ true
inside first last b h k = rw (le-leb first b h, le-leb b last k)

over : (first last b : ℕ) → last < b → among first last b ≡ false
over first last b h = rw (lt-leb b last h) (and-false (leb first b))
  where
    and-false : (t : Bool) → (t && false) ≡ false
    and-false true = refl
    and-false false = refl

module _ (b : ℕ) where
  pub worth-digit : 48 ≤ b → b ≤ 57 → (b - 48 ≡ digit_value b) × (b - 48 ≤ 16)
  unfolding digit_value
  worth-digit h k = (rw (inside 48 57 b h k), omega arith)

  pub worth-small : 97 ≤ b → b ≤ 102 → (b - 87 ≡ digit_value b) × (b - 87 ≤ 16)
  unfolding digit_value
  worth-small h k = (rw (over 48 57 b (omega arith), inside 97 102 b h k), omega arith)

-- ---- digit by digit
pub numeral-more : (base n : ℕ) (digits : List ℕ) (i : ℕ) → i < length digits
    → numeral base n (drop i digits) ≡ numeral base (n * base + digit_value (get_or digits i 0)) (drop (i + 1) digits)
unfolding numeral
numeral-more base n digits i h = rw (add-one, drop-cons digits i 0 h)

pub numeral-append : (base n : ℕ) (xs ys : List ℕ) → numeral base n (xs ++ ys) ≡ numeral base (numeral base n xs) ys
unfolding numeral
numeral-append base n [] ys = refl
numeral-append base n (x ∷ xs) ys = numeral-append base (n * base + digit_value x) xs ys

pub numeral-none : (base n : ℕ) → numeral base n [] ≡ n
unfolding numeral
numeral-none base n = refl

-- more digits make no number smaller
pub numeral-grows : (base n : ℕ) (digits : List ℕ) → 1 ≤ base → n ≤ numeral base n digits
unfolding numeral
numeral-grows base n [] h = le_of_eq refl
numeral-grows base n (b ∷ digits) h =
    let m : n * 1 ≤ n * base = mul-le-mul_left n h in
    let first : n ≤ n * base + digit_value b = omega (arith, mul-one n) in
    le_trans first (numeral-grows base (n * base + digit_value b) digits h)

pub above-limit : (limit n base d : ℕ) → 1 ≤ base → d ≤ 16 → 16 ≤ limit → (limit - d) / base < n → limit < n * base + d
above-limit limit n base d h l k t = let m : limit - d < n * base = (div-lt_iff_lt-mul h).0 t in omega arith

pub within-limit : (limit n base d : ℕ) → 1 ≤ base → d ≤ 16 → 16 ≤ limit → n ≤ (limit - d) / base → n * base + d ≤ limit
within-limit limit n base d h l k t = let m : n * base ≤ limit - d = (le-div_iff_mul-le h).0 t in omega arith

-- ---- a number read up to a limit
either : (a b : ℕ) → (a ≤ b) ⊎ (b ≤ a)
either a b = go (ltb b a) (ltb→lt b a) (nltb→le b a)
  where
    go : (t : Bool) → (T t → b < a) → (T (not t) → a ≤ b) → (a ≤ b) ⊎ (b ≤ a)
    go true h k = inr (le_of_lt (h tt))
    go false h k = inl (k tt)

pub capped : (limit base a : ℕ) (digits : List ℕ) → 1 ≤ base → min limit (numeral base (min limit a) digits) ≡ min limit (numeral base a digits)
capped limit base a digits h = go (either a limit)
  where
    go : (a ≤ limit) ⊎ (limit ≤ a) → min limit (numeral base (min limit a) digits) ≡ min limit (numeral base a digits)
    go (inl l) = rw (min-eq_right l)
    go (inr l) = rw (min-eq_left l) (min-eq_left (numeral-grows base limit digits h) ∙ sym (min-eq_left (le_trans l (numeral-grows base a digits h))))

-- the digits of two parts, read one after the other
pub read-both : (limit : ℕ) (whole fraction : List ℕ) (a d : ℕ) → a ≡ min limit (numeral 10 0 whole) → d ≡ min limit (numeral 10 a fraction)
    → d ≡ min limit (numeral 10 0 (whole ++ fraction))
read-both limit whole fraction a d e f =
    f ∙ ap (λ (n : ℕ). min limit (numeral 10 n fraction)) e
    ∙ capped limit 10 (numeral 10 0 whole) fraction (omega arith)
    ∙ ap (min limit) (sym (numeral-append 10 0 whole fraction))

-- ---- digits of a base bound the number
pub numeral-below : (base n : ℕ) (digits : List ℕ) → ((k : ℕ) → k < length digits → not_digit base (get_or digits k 0) ≡ false)
    → numeral base n digits < (n + 1) * base ^ length digits
unfolding numeral
numeral-below base n [] h = rw (pow-zero base) (omega arith)
numeral-below base n (b ∷ digits) h =
    let small : digit_value b < base = leb-false base (digit_value b) (h 0 (zero-lt-suc (length digits))) in
    let rest = numeral-below base (n * base + digit_value b) digits (λ (k : ℕ) (l : k < length digits). h (suc k) (omega arith)) in
    let m : (n * base + digit_value b + 1) * base ^ length digits ≤ (n + 1) * base * base ^ length digits = mul-le-mul_right (base ^ length digits) (omega arith) in
    lt_of_lt_of_le rest (le_trans m (le_of_eq (mul_assoc (n + 1) base (base ^ length digits) ∙ ap ((n + 1) *◌) (sym (pow-succ' base (length digits))))))
