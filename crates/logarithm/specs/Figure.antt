-- The figure that the logarithm call gives, worked out in whole numbers: inside in units of 2^-54, at the end of 2^-46. It needs no trust: the theorem
-- `Logarithms` of specs/Near.antt says that it lies within 2^-40 of the exact logarithm. It is a definition so that energies can be stated over it.
use Rattle.std.specs.Prelude.{true, false, cond, List, [], ◌∷◌, ℕ, zero, suc, ◌+◌, ◌-◌, ◌*◌, ◌/◌, ◌%◌, ◌^◌, leb, ltb, pos, get_or, Float}
use Rattle.std.specs.Float.{fin, binary64}
use Rattle.std.specs.Float.Ieee.{to_bits, of_int, div, neg}

-- a b / 2^54, by halves of 27 digits; the product of the lower halves is left out
unfoldable pub mul_units : ℕ → ℕ → ℕ
mul_units a b = a / 2 ^ 27 * (b / 2 ^ 27) + a / 2 ^ 27 * (b % 2 ^ 27) / 2 ^ 27 + a % 2 ^ 27 * (b / 2 ^ 27) / 2 ^ 27

-- so many terms more of u + u² / 2 + u³ / 3 + .. after the j-th; t is the power of u at which the sum stands
unfoldable pub terms_from : ℕ → ℕ → ℕ → ℕ → ℕ → ℕ
unfolding mul_units
terms_from zero u j t sum = sum
terms_from (suc n) u j t sum = terms_from n u (j + 1) (mul_units t u) (sum + mul_units t u / (j + 1))

-- ln (1 / (1 − u)), for u of at most 1 / 33, by eight terms
unfoldable pub ln_series : ℕ → ℕ
unfolding terms_from
ln_series u = terms_from 8 u 0 (2 ^ 54) 0

-- ln (32 / 32), ln (33 / 32), .. , ln (64 / 32)
abbrev pub steps : List ℕ
steps =
    (0 ∷ 554332922020656 ∷ 1092116096887892 ∷ 1614309137930962
    ∷ 2121790541970617 ∷ 2615366581746321 ∷ 3095779012233705 ∷ 3563711775779674
    ∷ 4019796858195216 ∷ 4464619421638421 ∷ 4898722318886414 ∷ 5322610076359984
    ∷ 5736752419200706 ∷ 6141587400165834 ∷ 6537524184600582 ∷ 6924945535877722
    ∷ 7304210039150667 ∷ 7675654095802210 ∷ 8039593716390433 ∷ 8396326136038560
    ∷ 8746131272959724 ∷ 9089273048048125 ∷ 9426000581121285 ∷ 9756549277395923
    ∷ 10081141816066464 ∷ 10399989051384373 ∷ 10713290835370364 ∷ 11021236770198579
    ∷ 11324006897345884 ∷ 11621772329778550 ∷ 11914695832734549 ∷ 12202932358037081
    ∷ 12486629536330718 ∷ [])

-- ln 2
abbrev pub ln2 : ℕ
ln2 = 12486629536330718

-- ln (2^k × c / 32 × 1 / (1 − u)), in units of 2^-46
unfoldable pub ln_reduced : ℕ → ℕ → ℕ → ℕ
unfolding ln_series
ln_reduced c u k = (get_or steps (c - 32) 0 + ln_series u + k * ln2) / 256

-- ln (2^k a / b) for b ≤ a ≤ 2 b: a / b is c / 32, c a whole number, times a ratio of at most 33 / 32
unfoldable pub ln_ratio : ℕ → ℕ → ℕ → ℕ
unfolding ln_reduced
ln_ratio a b k = ln_reduced (32 * a / b) ((32 * a - 32 * a / b * b) * 2 ^ 54 / (32 * a)) k

-- ln (2^k a / b) for b ≤ a: b is doubled while it fits, at most so many times more
unfoldable pub ln_from : ℕ → ℕ → ℕ → ℕ → ℕ
unfolding ln_ratio
ln_from zero a b k = ln_ratio a b k
ln_from (suc left) a b k = elim (leb (b * 2) a) [ true ↦ ln_from left a (b * 2) (k + 1) | false ↦ ln_ratio a b k ]

-- ln (a / b) of whole numbers, for b ≤ a ≤ 2^48
unfoldable pub ln_whole : ℕ → ℕ → ℕ
unfolding ln_from
ln_whole a b = ln_from 48 a b 0

-- t / 2^46 as a double, exactly while t is below 2^53
unfoldable pub fixed : ℕ → Float
unfolding of_int div
fixed t = div binary64 (of_int binary64 (pos t)) (fin false 1 (pos 46))

-- by the field of the exponent, and the digits with the hidden one: below 1 the logarithm of the inverse with its sign turned
unfoldable pub ln_of_fields : ℕ → ℕ → Float
unfolding ln_ratio fixed neg
ln_of_fields e m = cond (ltb e 1023) (neg (fixed (ln_ratio (2 ^ 53) m (1022 - e)))) (fixed (ln_ratio m (2 ^ 52) (e - 1023)))

-- the figure for x
unfoldable pub ln_of : Float → Float
unfolding ln_of_fields to_bits
ln_of x = ln_of_fields (to_bits binary64 x / 2 ^ 52) (to_bits binary64 x % 2 ^ 52 + 2 ^ 52)
