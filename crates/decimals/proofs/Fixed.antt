-- A number of millionths as text. Assumes nothing.
use mathlib.Core.Path.{◌≡◌, sym, ap, ◌∙◌}
use mathlib.Core.Bool.{Bool, true, false}
use mathlib.Core.List.{List, ◌∷◌, ◌++◌, append_assoc}
use Prim.Native.Nat.{ℕ, suc, ◌+◌, ◌-◌, ◌/◌, ◌%◌, ◌^◌, ◌≤◌}
use native.Mathlib.Nat.{zero-add}
use native.Mathlib.Numerals.{add-one}
use native.Mathlib.Omega.{arith}
use borrow.Rule.Slice.PartMut.{put_mid}
use lib.ListN.{length, take, drop, set, length-set, replicate, length-append, length-replicate}
use lib.Seq.{sets, sets-eq, length-sets}
use lib.Ieee.{Float}
use Rattle.std.proofs.Common.{Err}
use Rattle.std.proofs.lemmas.List.{drop-drop, length-take-le, length-drop}
use Rattle.lists.specs.Front.{over}
use Rattle.lists.proofs.Front.{sets-append, sets_over}
use Rattle.doubles.specs.Size.{sgn}
use Rattle.decimals.specs.Digits.{digits_in, decimal_digits, places}
use Rattle.decimals.specs.Print.{printed, laid, minus_signs, fixed, millionths, fixed_text, unprintable, fixed_printed, fixed_out}
use Rattle.decimals.specs.declared.PrintFault.TheVariants.{Unprintable}
use Rattle.decimals.proofs.Written.{digits-length, decimal-is, decimal-length}

-- ---- one part after the other
part_set : (a k : ℕ) (xs ys : List ℕ) → length ys ≡ k → a + k ≤ length xs → put_mid a k xs ys ≡ sets xs a ys
part_set a k xs ys e h = sym (sets-eq ys xs a (rw e h) ∙ rw (e, drop-drop k a xs, append_assoc))

pub part-kept : (a k : ℕ) (xs ys : List ℕ) → length ys ≡ k → a + k ≤ length xs → length (put_mid a k xs ys) ≡ length xs
part-kept a k xs ys e h = ap length (part_set a k xs ys e h) ∙ length-sets xs a ys

pub part-length : (a k : ℕ) (xs : List ℕ) → a + k ≤ length xs → length (take k (drop a xs)) ≡ k
part-length a k xs h = length-take-le k (drop a xs) (rw (length-drop a xs) (omega arith))

front_set : (a : ℕ) (out front : List ℕ) → length front ≡ a → a ≤ length out → front ++ drop a out ≡ sets out 0 front
unfolding over
front_set a out front e h = sym (sets_over front out (rw e h) ∙ rw e)

stored : (out front whole last : List ℕ) (a b : ℕ) → length front ≡ a → length whole ≡ b
    → sets (set (sets (sets out 0 front) a whole) (a + b) 46) (a + b + 1) last ≡ sets out 0 (front ++ (whole ++ (46 ∷ last)))
stored out front whole last a b e f =
    rw (add-one (a + b))
    (sym
    (sets-append out 0 front (whole ++ (46 ∷ last))
    ∙ ap (λ (k : ℕ). sets (sets out 0 front) k (whole ++ (46 ∷ last))) (zero-add (length front) ∙ e)
    ∙ sets-append (sets out 0 front) a whole (46 ∷ last)
    ∙ ap (λ (k : ℕ). sets (sets (sets out 0 front) a whole) (a + k) (46 ∷ last)) f))

total : {a b : ℕ} (x y z : ℕ) → x ≡ a → y ≡ b → z ≡ 7 → x + (y + z) ≡ a + b + 7
total x y z e f g = omega arith

module _ (negative : Bool) (n a b : ℕ) (e : a ≡ minus_signs negative n) (f : b ≡ places 10 19 (n / 10 ^ 6)) where
  pub fixed-length : length (fixed negative n) ≡ a + b + 7
  unfolding fixed
  fixed-length =
      let front = length-replicate {A = ℕ} (minus_signs negative n) 45 in
      let whole = decimal-length (n / 10 ^ 6) b f in
      let last = digits-length 10 6 (n % 10 ^ 6) in
      let behind : length (46 ∷ digits_in 10 6 (n % 10 ^ 6)) ≡ 7 = ap suc last in
      length-append (replicate (minus_signs negative n) 45) (decimal_digits (n / 10 ^ 6) ++ (46 ∷ digits_in 10 6 (n % 10 ^ 6)))
      ∙ ap (length (replicate {A = ℕ} (minus_signs negative n) 45) +◌) (length-append (decimal_digits (n / 10 ^ 6)) (46 ∷ digits_in 10 6 (n % 10 ^ 6)))
      ∙ total (length (replicate {A = ℕ} (minus_signs negative n) 45)) (length (decimal_digits (n / 10 ^ 6))) (length (46 ∷ digits_in 10 6 (n % 10 ^ 6))) (front ∙ sym e) whole behind

  fixed-stored : (out : List ℕ)
      → sets (set (sets (sets out 0 (replicate a 45)) a (digits_in 10 b (n / 10 ^ 6))) (a + b) 46) (a + b + 1) (digits_in 10 6 (n % 10 ^ 6)) ≡ sets out 0 (fixed negative n)
  unfolding fixed
  fixed-stored out =
      stored out (replicate a 45) (digits_in 10 b (n / 10 ^ 6)) (digits_in 10 6 (n % 10 ^ 6)) a b (length-replicate {A = ℕ} a 45) (digits-length 10 b (n / 10 ^ 6))
      ∙ rw (← e, decimal-is (n / 10 ^ 6) b f)

  -- the same, part by part
  pub fixed-parts : (out signs whole last : List ℕ) → a + b + 7 ≤ length out → signs ≡ replicate a 45 → whole ≡ digits_in 10 b (n / 10 ^ 6)
      → last ≡ digits_in 10 6 (n % 10 ^ 6)
      → put_mid (a + b + 1) (a + b + 7 - (a + b + 1)) (set (put_mid a (a + b - a) (signs ++ drop a out) whole) (a + b) 46) last
      ≡ fixed negative n ++ drop (a + b + 7) out
  fixed-parts out signs whole last h s w l =
      let size : length signs ≡ a = ap length s ∙ length-replicate {A = ℕ} a 45 in
      let first : signs ++ drop a out ≡ sets out 0 signs = front_set a out signs size (omega arith) in
      let one = sets out 0 signs in
      let same : length one ≡ length out = length-sets out 0 signs in
      let second : put_mid a (a + b - a) one whole ≡ sets one a whole =
      part_set a (a + b - a) one whole (ap length w ∙ digits-length 10 b (n / 10 ^ 6) ∙ omega arith) (omega arith) in
      let two = set (sets one a whole) (a + b) 46 in
      let kept : length two ≡ length out = length-set (sets one a whole) (a + b) 46 ∙ length-sets one a whole ∙ same in
      let third : put_mid (a + b + 1) (a + b + 7 - (a + b + 1)) two last ≡ sets two (a + b + 1) last =
      part_set (a + b + 1) (a + b + 7 - (a + b + 1)) two last (ap length l ∙ digits-length 10 6 (n % 10 ^ 6) ∙ omega arith) (omega arith) in
      rw (first, second, third, s, w, l, fixed-stored out) (sym (front_set (a + b + 7) out (fixed negative n) fixed-length h))

-- ---- a double
module _ (x : Float) (out : List ℕ) where
  pub unprinted : unprintable x ≡ true → (Err Unprintable ≡ fixed_printed x out) × (out ≡ fixed_out x out)
  unfolding fixed_printed fixed_out
  unprinted e = (rw e, rw e)

  pub printed-fixed : unprintable x ≡ false → (negative : Bool) (n : ℕ) → negative ≡ sgn x → n ≡ millionths x
      → (printed (fixed negative n) out ≡ fixed_printed x out) × (laid (fixed negative n) out ≡ fixed_out x out)
  unfolding fixed_printed fixed_out fixed_text
  printed-fixed e negative n s m = (rw (e, s, m), rw (e, s, m))
