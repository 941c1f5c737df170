-- The hexadecimal digits that are printed of a double's bits are those that are read back. Assumes nothing.
use mathlib.Core.Path.{◌≡◌, refl, sym, ap, ◌∙◌}
use mathlib.Core.Bool.{false}
use mathlib.Core.List.{List, [], ◌∷◌, ◌++◌, append_assoc, append-nil}
use Prim.Native.Nat.{ℕ, zero, suc, ◌-◌, ◌/◌, ◌%◌, ◌^◌, ◌≤◌, ◌<◌}
use native.Mathlib.Nat.{sub-zero, pow-suc, div-lt_iff_lt-mul, zero-lt-suc}
use native.Mathlib.Omega.{arith}
use native.Mathlib.Decide.{ℕ_discrete}
use borrow.Author.Tests.{eq-eqb, ne_eqb}
use lib.ListN.{length, replicate, length-append}
use Rattle.std.specs.Fmt.{digits, digits_onto, digit_glyph, padded_integral, char_count}
use Rattle.decimals.specs.Digits.{digits_in}
use Rattle.decimals.proofs.Back.{pattern-read-back}
use Rattle.answers.specs.Text.{hex_text}
use Rattle.answers.specs.Back.{ShownReadBack}

-- a zero behind zeros is one more
zero-behind : (count : ℕ) → replicate {A = ℕ} count 48 ++ (48 ∷ []) ≡ replicate (suc count) 48
zero-behind zero = refl
zero-behind (suc count) = ap (λ (xs : List ℕ). 48 ∷ xs) (zero-behind count)

-- the digits of 0
zeros : (count : ℕ) → digits_in 16 count 0 ≡ replicate count 48
unfolding digits_in
zeros zero = refl
zeros (suc count) = ap (λ (xs : List ℕ). xs ++ (48 ∷ [])) (zeros count) ∙ zero-behind count

-- the digits of a number, which std puts before what follows, and which with zeros before them are those of a width
record Spelled (count k n : ℕ) : Type 0 where
  ds : List ℕ
  onto : (acc : List ℕ) → digits_onto k 16 false n acc ≡ ds ++ acc
  short : length ds ≤ count
  filled : replicate (count - length ds) 48 ++ ds ≡ digits_in 16 count n

-- a number that is not 0 has a digit
some_digit : (count : ℕ) {n : ℕ} → n < 16 ^ count → (n ≡ 0 → ⊥) → 0 < count
some_digit zero h e = absurd (e (omega arith))
some_digit (suc count) h e = omega arith

spelled : (count k n : ℕ) → 0 < count → count ≤ k → n < 16 ^ count → Spelled count k n
unfolding digits_in
spelled zero k n some few small = absurd (omega arith)
spelled (suc count) zero n some few small = absurd (omega arith)
spelled (suc count) (suc k) n some few small =
    go (ℕ_discrete (n / 16) 0) (λ more. spelled count k (n / 16) more (omega arith) less)
  where
    last : ℕ
    last = digit_glyph false (n % 16)

    less : n / 16 < 16 ^ count
    less = (div-lt_iff_lt-mul (zero-lt-suc 15)).1 (rw (pow-suc 16 count) at small)

    go : Dec (n / 16 ≡ 0) → (0 < count → Spelled count k (n / 16)) → Spelled (suc count) (suc k) n
    go (yes e) front = record {
      ds = last ∷ [];
      onto = λ acc. rw (eq-eqb (n / 16) 0 e) refl;
      short = omega arith;
      filled =
          let one : suc count - length (last ∷ []) ≡ count = omega arith in
          ap (λ (k : ℕ). replicate k 48 ++ (last ∷ [])) one ∙ ap (λ (xs : List ℕ). xs ++ (last ∷ [])) (sym (zeros count) ∙ ap (digits_in 16 count) (sym e));
    }
    go (no e) front =
        let r = front (some_digit count less e) in
        record {
          ds = r.ds ++ (last ∷ []);
          onto = λ acc. rw (ne_eqb (n / 16) 0 e) (r.onto (last ∷ acc) ∙ sym (append_assoc r.ds (last ∷ []) acc));
          short = omega (arith, length-append r.ds (last ∷ []), r.short);
          filled =
              let one : suc count - length (r.ds ++ (last ∷ [])) ≡ count - length r.ds = omega (arith, length-append r.ds (last ∷ [])) in
              ap (λ (k : ℕ). replicate k 48 ++ (r.ds ++ (last ∷ []))) one ∙ (sym (append_assoc (replicate (count - length r.ds) 48) r.ds (last ∷ [])) ∙ ap (λ (xs : List ℕ). xs ++ (last ∷ [])) r.filled);
        }

-- with zeros in front, std's digits are the last ones
pub hex-digits : (width n : ℕ) → 0 < width → width ≤ 64 → n < 16 ^ width → hex_text width n ≡ digits_in 16 width n
unfolding padded_integral digits char_count
hex-digits width n some few small =
    let r = spelled width 64 n some few small in
    let shown : digits 16 false n ≡ r.ds = r.onto [] ∙ append-nil r.ds in
    rw (shown) (simp (append-nil, sub-zero) r.filled)

pub shown-read-back : ShownReadBack
shown-read-back bits h = rw (hex-digits 16 bits (omega arith) (omega arith) (omega (arith, h))) (pattern-read-back bits h)
