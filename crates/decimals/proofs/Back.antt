-- The 16 hexadecimal digits of a double's bits are read back. Assumes nothing.
use mathlib.Core.Path.{◌≡◌, refl, sym, ap, ◌∙◌}
use mathlib.Core.Bool.{Bool, true, false, cond}
use mathlib.Core.List.{List, [], ◌∷◌, ◌++◌}
use Prim.Native.Nat.{ℕ, zero, suc, ◌+◌, ◌/◌, ◌%◌, ◌^◌, ◌≤◌, ◌<◌}
use native.Mathlib.Nat.{pow-suc, mod-lt, div-lt_iff_lt-mul, div-add-mod', suc_inj, suc-ne-zero, zero-lt-suc}
use native.Mathlib.Omega.{arith}
use lib.Dec.{ltb}
use lib.ListN.{length}
use borrow.Author.Tests.{lt-leb, ltb-true, ltb-false, eq-eqb}
use Rattle.lists.specs.Find.{first_index}
use Rattle.decimals.specs.Digits.{digit_value, digit_of, digits_in, not_digit, digit_run, numeral}
use Rattle.decimals.specs.Number.{is_pattern, number_of}
use Rattle.decimals.specs.Back.{pattern_of, PatternReadBack}
use Rattle.decimals.proofs.Worth.{worth-digit, worth-small, numeral-append}
use Rattle.decimals.proofs.Written.{digits-length}

-- a digit is worth its number
worth : (d : ℕ) → d < 16 → digit_value (digit_of d) ≡ d
worth d h = go (ltb d 10) (ltb-true d 10) (ltb-false d 10)
  where
    go : (b : Bool) → (b ≡ true → d < 10) → (b ≡ false → 10 ≤ d) → digit_value (cond b (48 + d) (87 + d)) ≡ d
    go true f g =
        let l : d < 10 = f refl in
        sym (worth-digit (48 + d) (omega arith) (omega arith)).0 ∙ omega arith
    go false f g =
        let l : 10 ≤ d = g refl in
        sym (worth-small (87 + d) (omega arith) (omega arith)).0 ∙ omega arith

-- all digits of a number are digits
first-append : (p : ℕ → Bool) (xs ys : List ℕ) → first_index p xs ≡ length xs → first_index p (xs ++ ys) ≡ length xs + first_index p ys
unfolding first_index
first-append p [] ys e = omega arith
first-append p (x ∷ xs) ys e = go (p x) e (first-append p xs ys)
  where
    go : (b : Bool) → cond b 0 (suc (first_index p xs)) ≡ suc (length xs) → (first_index p xs ≡ length xs → first_index p (xs ++ ys) ≡ length xs + first_index p ys)
        → cond b 0 (suc (first_index p (xs ++ ys))) ≡ suc (length xs) + first_index p ys
    go true e r = absurd (suc-ne-zero (length xs) (sym e))
    go false e r = let s = r (suc_inj e) in omega arith

run-one : (d : ℕ) → d < 16 → digit_run 16 (digit_of d ∷ []) ≡ 1
unfolding first_index
run-one d h = rw (lt-leb 16 (digit_value (digit_of d)) (rw (worth d h) h))

run-digits : (count n : ℕ) → digit_run 16 (digits_in 16 count n) ≡ count
unfolding digits_in first_index
run-digits zero n = refl
run-digits (suc count) n =
    let front = digits_in 16 count (n / 16) in
    let size = digits-length 16 count (n / 16) in
    let last = run-one (n % 16) (mod-lt n (zero-lt-suc 15)) in
    let all = first-append (not_digit 16) front (digit_of (n % 16) ∷ []) (run-digits count (n / 16) ∙ sym size) in
    omega (arith, all, last, size)

-- and they stand for it
number-back : (count n : ℕ) → n < 16 ^ count → numeral 16 0 (digits_in 16 count n) ≡ n
unfolding digits_in numeral
number-back zero n h = omega arith
number-back (suc count) n h =
    let front = digits_in 16 count (n / 16) in
    let less : n / 16 < 16 ^ count = (div-lt_iff_lt-mul (zero-lt-suc 15)).1 (rw (pow-suc 16 count) at h) in
    numeral-append 16 0 front (digit_of (n % 16) ∷ [])
    ∙ rw (number-back count (n / 16) less, worth (n % 16) (mod-lt n (zero-lt-suc 15))) (div-add-mod' n 16)

pub pattern-read-back : PatternReadBack
unfolding number_of
pattern-read-back bits h =
    let size : length (pattern_of bits) ≡ 18 = ap (λ (k : ℕ). suc (suc k)) (digits-length 16 16 bits) in
    let is : is_pattern (pattern_of bits) ≡ true = rw (eq-eqb (length (pattern_of bits)) 18 size, eq-eqb (digit_run 16 (digits_in 16 16 bits)) 16 (run-digits 16 bits)) in
    rw (is, number-back 16 bits h)
