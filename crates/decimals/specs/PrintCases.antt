-- Doubles and the texts that they are printed as, computed from the definition.
use Rattle.std.specs.Prelude.{true, false, List, [], ◌∷◌, map, ◌≡◌, refl, ℕ, pos, negsuc, Float}
use Rattle.std.specs.Float.{fin}
use Rattle.doubles.specs.Size.{sgn, mag}
use Rattle.decimals.specs.Digits.{digits_in, decimal_digits}
use Rattle.decimals.specs.Print.{fixed_text}

-- a double, and its text
pub record Case : Type 0 where
  pub double : Float
  pub text : List ℕ

infix 68 ◌is◌
-- `double is text`, as the cases are written
abbrev pub ◌is◌ : Float → List ℕ → Case
double is text = record { double = double; text = text }

-- signs, zeros, ties and both ends
abbrev pub cases : List Case
cases =
    -- -1.5
    fin true 3 (negsuc 0) is (45 ∷ 49 ∷ 46 ∷ 53 ∷ 48 ∷ 48 ∷ 48 ∷ 48 ∷ 48 ∷ [])
    ∷
    -- 0
    fin false 0 (pos 0) is (48 ∷ 46 ∷ 48 ∷ 48 ∷ 48 ∷ 48 ∷ 48 ∷ 48 ∷ [])
    ∷
    -- -0: no sign
    fin true 0 (pos 0) is (48 ∷ 46 ∷ 48 ∷ 48 ∷ 48 ∷ 48 ∷ 48 ∷ 48 ∷ [])
    ∷
    -- -1e-7, which rounds to 0: no sign
    fin true 944473296573929 (negsuc 72) is (48 ∷ 46 ∷ 48 ∷ 48 ∷ 48 ∷ 48 ∷ 48 ∷ 48 ∷ [])
    ∷
    -- 2 ^ -7 is 0.0078125, a tie: the even digit below
    fin false 1 (negsuc 6) is (48 ∷ 46 ∷ 48 ∷ 48 ∷ 55 ∷ 56 ∷ 49 ∷ 50 ∷ [])
    ∷
    -- 3 * 2 ^ -7 is 0.0234375, a tie: the even digit above
    fin false 3 (negsuc 6) is (48 ∷ 46 ∷ 48 ∷ 50 ∷ 51 ∷ 52 ∷ 51 ∷ 56 ∷ [])
    ∷
    -- 0.1
    fin false 3602879701896397 (negsuc 54) is (48 ∷ 46 ∷ 49 ∷ 48 ∷ 48 ∷ 48 ∷ 48 ∷ 48 ∷ [])
    ∷
    -- -12.3456785
    fin true 6949999136529493 (negsuc 48) is (45 ∷ 49 ∷ 50 ∷ 46 ∷ 51 ∷ 52 ∷ 53 ∷ 54 ∷ 55 ∷ 56 ∷ [])
    ∷
    -- the smallest double
    fin false 1 (negsuc 1073) is (48 ∷ 46 ∷ 48 ∷ 48 ∷ 48 ∷ 48 ∷ 48 ∷ 48 ∷ [])
    ∷
    -- the largest with a text
    fin false 9007199254740991 (negsuc 9) is (56 ∷ 55 ∷ 57 ∷ 54 ∷ 48 ∷ 57 ∷ 51 ∷ 48 ∷ 50 ∷ 50 ∷ 50 ∷ 48 ∷ 55 ∷ 46 ∷ 57 ∷ 57 ∷ 57 ∷ 48 ∷ 50 ∷ 51 ∷ [])
    ∷
    []

-- the definition prints each case as it was worked out
pub as-worked-out : map (λ (c : Case). fixed_text c.double) cases ≡ map (λ (c : Case). c.text) cases
unfolding fixed_text sgn mag
as-worked-out = refl

-- 255 in 4 hexadecimal digits
pub hexadecimal : digits_in 16 4 255 ≡ 48 ∷ 48 ∷ 102 ∷ 102 ∷ []
unfolding digits_in
hexadecimal = refl

-- and 1,048,576 in decimal digits
pub count : decimal_digits 1048576 ≡ 49 ∷ 48 ∷ 52 ∷ 56 ∷ 53 ∷ 55 ∷ 54 ∷ []
unfolding decimal_digits
count = refl
