-- The weights that a call is lent, and which of them are looked at.
use Rattle.std.specs.Prelude.{Bool, not, ◌&&◌, ◌||◌, List, [], ℕ, ◌+◌, ◌*◌, ◌^◌, leb, ltb, ℤ, pos, negsuc, length, get_or}
use Rattle.std.specs.Int.Signed.{le_z}
use Rattle.std.specs.Int.{w32}
use Rattle.std.proofs.Common.{to_z, of_z}
use Rattle.lists.specs.Build.{up_to, tabulate}
use Rattle.lists.specs.Find.{any}
use Rattle.fractions.specs.Frac.{Frac}
use Rattle.fractions.specs.declared.Weight.{Weight}
use Rattle.fractions.specs.Weight.{weight, worth}

-- One weight for each position and strand, and one for each left and right strand, row first; digits and exponents apart. Strand 0 has its cells.
pub record Weights : Type 0 where
  pub strands : ℕ
  pub place_digits : List ℕ
  pub place_powers : List ℤ
  pub pair_digits : List ℕ
  pub pair_powers : List ℤ

-- an exponent as the 32 bits hold it in which it is lent: of a signed 32-bit number, itself
abbrev pub signed : ℤ → ℤ
signed power = to_z w32 (of_z w32 power)

-- the weight at a cell of two tables
abbrev pub weight_at : List ℕ → List ℤ → ℕ → Weight
weight_at digits powers cell = weight (get_or digits cell 0) (signed (get_or powers cell (pos 0)))

-- the weight of a strand at a position
abbrev pub place_weight : Weights → ℕ → ℕ → Weight
place_weight w i x = weight_at w.place_digits w.place_powers (i * w.strands + x)

-- the weight of a left and a right strand
abbrev pub pair_weight : Weights → ℕ → ℕ → Weight
pair_weight w x y = weight_at w.pair_digits w.pair_powers (x * w.strands + y)

-- what they are worth
abbrev pub place_worth : Weights → ℕ → ℕ → Frac
place_worth w i x = worth (place_weight w i x)

-- and of pairs
abbrev pub pair_worth : Weights → ℕ → ℕ → Frac
pair_worth w x y = worth (pair_weight w x y)

-- ---- form

-- an exponent from −400,000 to 400,000
abbrev pub exponent_fits : ℤ → Bool
exponent_fits power = le_z (negsuc 399999) power && le_z power (pos 400000)

-- Document 02's form: a whole number from 2^30 up to, not including, 2^31, times a power of two with such an exponent.
unfoldable pub unformed : Weight → Bool
unformed w = not (leb (2 ^ 30) w.digits && (ltb w.digits (2 ^ 31) && exponent_fits w.power))

-- ---- 19: a weight that some state uses is outside its form

-- of a strand at a position
abbrev pub place_out : Weights → ℕ → ℕ → Bool
place_out w i x = unformed (place_weight w i x)

-- of a left and a right strand
abbrev pub pair_out : Weights → ℕ → ℕ → Bool
pair_out w x y = unformed (pair_weight w x y)

-- of a left strand and one of several to its right
abbrev pub pairs_out : Weights → List ℕ → ℕ → Bool
pairs_out w right x = any (pair_out w x) right

-- of a friend at its position
abbrev pub places_out_at : List (List ℕ) → Weights → ℕ → Bool
places_out_at friends w i = any (place_out w i) (get_or friends i [])

-- of a friend of a position and a friend of the next
abbrev pub pairs_out_at : List (List ℕ) → Weights → ℕ → Bool
pairs_out_at friends w i = any (pairs_out w (get_or friends (i + 1) [])) (get_or friends i [])

-- Document 02's refusal 19, of the friends of each position; no other weight is looked at.
unfoldable pub weights_out : List (List ℕ) → Weights → Bool
unfolding any tabulate unformed
weights_out friends w = any (places_out_at friends w) (up_to (length friends)) || any (pairs_out_at friends w) (up_to (length friends))
