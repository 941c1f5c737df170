-- Digits of a number in a base of up to 16, as they are read and as they are written.
use Rattle.std.specs.Prelude.{Bool, cond, ◌&&◌, List, [], ◌∷◌, ◌++◌, ℕ, zero, suc, ◌+◌, ◌-◌, ◌*◌, ◌/◌, ◌%◌, leb, ltb}
use Rattle.lists.specs.Find.{first_index}

-- from one byte to another, both included
abbrev pub among : ℕ → ℕ → ℕ → Bool
among first last b = leb first b && leb b last

-- what a byte is worth as a digit, letters of either case; 16 where it is none
unfoldable pub digit_value : ℕ → ℕ
digit_value b =
    cond (among 48 57 b) (b - 48)
    (cond (among 97 102 b) (b - 87)
    (cond (among 65 70 b) (b - 55)
    16))

-- no digit of the base
abbrev pub not_digit : ℕ → ℕ → Bool
not_digit base b = leb base (digit_value b)

-- how many digits of the base a text begins with
abbrev pub digit_run : ℕ → List ℕ → ℕ
digit_run base text = first_index (not_digit base) text

-- the number that digits stand for, after those that stand for n
unfoldable pub numeral : ℕ → ℕ → List ℕ → ℕ
numeral base n [] = n
numeral base n (b ∷ digits) = numeral base (n * base + digit_value b) digits

-- the digit of a number below 16, letters in lower case
abbrev pub digit_of : ℕ → ℕ
digit_of n = cond (ltb n 10) (48 + n) (87 + n)

-- the last `count` digits of n, zeros in front where it has fewer
unfoldable pub digits_in : ℕ → ℕ → ℕ → List ℕ
digits_in base zero n = []
digits_in base (suc count) n = digits_in base count (n / base) ++ (digit_of (n % base) ∷ [])

-- how many digits n has, 0 one: counted up to `more` after the first
unfoldable pub places : ℕ → ℕ → ℕ → ℕ
places base zero n = 1
places base (suc more) n = cond (ltb n base) 1 (suc (places base more (n / base)))

-- n below 10 ^ 20 in decimal digits
unfoldable pub decimal_digits : ℕ → List ℕ
unfolding digits_in places
decimal_digits n = digits_in 10 (places 10 19 n) n
