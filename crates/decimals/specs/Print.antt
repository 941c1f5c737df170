-- The texts that numbers are printed as, and what printing one into a lent slice answers and leaves there.
use Rattle.std.specs.Prelude.{Bool, cond, ◌&&◌, List, ◌∷◌, ◌++◌, ℕ, ◌*◌, ◌/◌, ◌%◌, ◌^◌, leb, ltb, length, replicate, Float, Result, Ok, Err}
use Rattle.std.specs.Float.{binary64}
use Rattle.std.specs.Float.Ieee.Nearest.{closest}
use Rattle.lists.specs.Front.{over}
use Rattle.doubles.specs.Size.{sgn, mag}
use Rattle.decimals.specs.Digits.{digits_in, decimal_digits}
use Rattle.decimals.specs.declared.PrintFault.{PrintFault}
use Rattle.decimals.specs.declared.PrintFault.TheVariants.{TooShort, Unprintable}

-- a text has room in the lent slice, or not
abbrev pub printed : List ℕ → List ℕ → Result ℕ PrintFault
printed text out = cond (ltb (length out) (length text)) (Err TooShort) (Ok (length text))

-- the text in front, what the slice held past it; all as it was where the text has no room
abbrev pub laid : List ℕ → List ℕ → List ℕ
laid text out = cond (ltb (length out) (length text)) out (over text out)

-- |x| in millionths to the nearest whole number, of two equally near the even one. |x| is `mag` units of 2 ^ -1074.
unfoldable pub millionths : Float → ℕ
millionths x = closest (mag binary64 x * 10 ^ 6) (2 ^ 1074)

-- how many minus signs stand in front: one, but none where all is 0
abbrev pub minus_signs : Bool → ℕ → ℕ
minus_signs negative n = cond (negative && ltb 0 n) 1 0

-- n millionths: the whole part, a point, six places
unfoldable pub fixed : Bool → ℕ → List ℕ
unfolding digits_in decimal_digits
fixed negative n = replicate (minus_signs negative n) 45 ++ (decimal_digits (n / 10 ^ 6) ++ (46 ∷ digits_in 10 6 (n % 10 ^ 6)))

-- x to six places
unfoldable pub fixed_text : Float → List ℕ
unfolding fixed millionths
fixed_text x = fixed (sgn x) (millionths x)

-- 2 ^ 43 in size and more, infinities and NaN have no such text
abbrev pub unprintable : Float → Bool
unprintable x = leb (2 ^ 43 * 2 ^ 1074) (mag binary64 x)

-- what printing x answers
unfoldable pub fixed_printed : Float → List ℕ → Result ℕ PrintFault
unfolding fixed_text
fixed_printed x out = cond (unprintable x) (Err Unprintable) (printed (fixed_text x) out)

-- and what the lent slice then holds
unfoldable pub fixed_out : Float → List ℕ → List ℕ
unfolding fixed_text
fixed_out x out = cond (unprintable x) out (laid (fixed_text x) out)
