-- The text in which the figures of a settled design are printed, for people and as JSON.
use Rattle.std.specs.Prelude.{Bool, false, cond, ◌&&◌, List, [], ◌∷◌, ◌++◌, ℕ, ◌+◌, ◌-◌, ◌%◌, ◌^◌, eqb, ltb, take, replicate, Float, Option, None, Some}
use Rattle.std.specs.Fmt.{decimal, digits, padded_integral, format_spec}
use Rattle.std.specs.Float.{binary64}
use Rattle.std.specs.Float.Ieee.{to_bits}
use Rattle.std.specs.Result.{result_unwrap_or}
use Rattle.std.specs.Io.KnownBytes.{Appends}
use lib.Chars.{codes}
use Rattle.decimals.specs.Print.{fixed_printed, fixed_out}

-- ---- what is written

-- known bytes stay at the front, and some stand behind them
abbrev pub Grows : Option (List ℕ) → Option (List ℕ) → Type 0
Grows old new = (more : List ℕ) × Appends old new more

-- ---- numbers

-- a number, or null
abbrev pub count_text : Option ℕ → List ℕ
count_text None = codes "null"
count_text (Some n) = decimal n

-- so many of something, in the singular where it is one
abbrev pub number_of_text : ℕ → List ℕ → List ℕ → List ℕ
number_of_text n one more = decimal n ++ (32 ∷ cond (eqb n 1) one more)

-- a number in hexadecimal digits, with zeros in front up to a width
abbrev pub hex_text : ℕ → ℕ → List ℕ
hex_text width n = padded_integral (format_spec 32 0 4 width (2 ^ 64 - 1)) false [] (digits 16 false n)

-- a double to six places: what printing it leaves, where there is such a text
unfoldable pub fixed_shown : Float → List ℕ
fixed_shown x = take (result_unwrap_or (fixed_printed x (replicate 32 0)) 0) (fixed_out x (replicate 32 0))

-- ---- lists

-- each element's text, by its place
unfoldable pub pieces : {A : Type 0} → (ℕ → A → List ℕ) → ℕ → List A → List ℕ
pieces text i [] = []
pieces text i (x ∷ xs) = text i x ++ pieces text (i + 1) xs

-- a comma before each but the first
abbrev pub comma : ℕ → List ℕ
comma i = cond (ltb 0 i) (44 ∷ []) []

-- ---- for people

-- the states
abbrev pub states_text : Option ℕ → List ℕ
states_text None = codes "  more than 1048576 states" ++ (10 ∷ [])
states_text (Some n) = codes "  " ++ number_of_text n (codes "state" ++ (10 ∷ [])) (codes "states" ++ (10 ∷ []))

-- how many positions, strands, energies and states there are
unfoldable pub counts_text : ℕ → ℕ → ℕ → Option ℕ → List ℕ
counts_text positions strands energies states =
    (10 ∷ codes "  ") ++ (number_of_text positions (codes "position, ") (codes "positions, ")
    ++ (number_of_text strands (codes "strand, ") (codes "strands, ")
    ++ (number_of_text energies (codes "energy" ++ (10 ∷ [])) (codes "energies" ++ (10 ∷ []))
    ++ states_text states)))

-- the unit of an energy, and its bits
abbrev pub unit_text : Float → List ℕ
unit_text energy = codes " kcal/mol, bits " ++ (hex_text 16 (to_bits binary64 energy) ++ (10 ∷ []))

-- an energy to six places, and its bits
unfoldable pub energy_text : Float → List ℕ
energy_text energy = codes "  energy " ++ (fixed_shown energy ++ unit_text energy)

-- a line of a deck has eight words
abbrev pub deck_gap : ℕ → List ℕ
deck_gap i = cond (ltb 0 i && eqb (i % 8) 0) (10 ∷ codes "      ") []

-- a word of a deck by its place
abbrev pub deck_piece : ℕ → ℕ → List ℕ
deck_piece i word = deck_gap i ++ (32 ∷ hex_text 8 word)

-- a deck
unfoldable pub deck_text : List ℕ → List ℕ
deck_text words = codes "  deck" ++ (pieces deck_piece 0 words ++ (10 ∷ []))

-- of a ring, that its last position stands beside its first
abbrev pub ring_text : Bool → ℕ → List ℕ
ring_text ring last = cond ring (codes "  ring: position " ++ (decimal last ++ (codes " stands beside position 1" ++ (10 ∷ [])))) []

-- ---- as JSON

-- how many positions, strands, energies and states there are, as fields
abbrev pub json_counts_text : ℕ → ℕ → ℕ → Option ℕ → List ℕ
json_counts_text positions strands energies states =
    codes "0,\"positions\":" ++ (decimal positions ++ (codes ",\"strands\":" ++ (decimal strands ++ (codes ",\"energies\":" ++ (decimal energies ++ (codes ",\"states\":" ++ count_text states))))))

-- whether the scaffold is a ring, as a field
abbrev pub json_ring_text : Bool → List ℕ
json_ring_text ring = codes ",\"ring\":" ++ cond ring (codes "true") (codes "false")

-- a number of a list by its place
abbrev pub number_piece : ℕ → ℕ → List ℕ
number_piece i n = comma i ++ decimal n

-- a field that holds a list of numbers
unfoldable pub numbers_text : List ℕ → List ℕ → List ℕ
numbers_text name numbers = codes ",\"" ++ (name ++ (codes "\":[" ++ (pieces number_piece 0 numbers ++ codes "]")))

-- a word of a deck in a list by its place
abbrev pub word_piece : ℕ → ℕ → List ℕ
word_piece i word = comma i ++ (34 ∷ (hex_text 8 word ++ (34 ∷ [])))

-- the field that holds a deck
unfoldable pub words_text : List ℕ → List ℕ
words_text words = codes ",\"deck\":[" ++ (pieces word_piece 0 words ++ codes "]")

-- an energy's bits, as a field
abbrev pub json_bits_text : Float → List ℕ
json_bits_text energy = codes ",\"bits\":\"" ++ (hex_text 16 (to_bits binary64 energy) ++ (34 ∷ []))

-- an energy and its bits, as fields
unfoldable pub json_energy_text : Float → List ℕ
json_energy_text energy = codes ",\"energy\":" ++ (fixed_shown energy ++ json_bits_text energy)
