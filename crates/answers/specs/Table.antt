-- A table of files: a line of heads, and a row for each file, with tabs between the fields. What a file does not have is left empty.
use Rattle.std.specs.Prelude.{cond, List, [], ◌∷◌, ◌++◌, ℕ, ltb, Float, Option, None, Some}
use Rattle.std.specs.Fmt.{decimal}
use Rattle.std.specs.Float.{binary64}
use Rattle.std.specs.Float.Ieee.{to_bits}
use lib.Chars.{codes}
use Rattle.statements.specs.declared.words.Word.{Word}
use Rattle.answers.specs.declared.Spot.{Spot}
use Rattle.answers.specs.declared.SettledDesign.{SettledDesign}
use Rattle.answers.specs.declared.print.Style.TheVariants.{Tsv}
use Rattle.answers.specs.Names.{part}
use Rattle.answers.specs.Shown.{shown_bytes, word_text}
use Rattle.answers.specs.Text.{pieces, hex_text, fixed_shown}

-- the heads
abbrev pub heads_text : List ℕ
heads_text =
    codes "file" ++ (9 ∷ codes "reply") ++ (9 ∷ codes "energy") ++ (9 ∷ codes "bits") ++ (9 ∷ codes "states")
    ++ (9 ∷ codes "configuration") ++ (9 ∷ codes "line") ++ (9 ∷ codes "word") ++ (9 ∷ codes "reason") ++ (10 ∷ [])

-- a number, where there is one
abbrev pub number_field : Option ℕ → List ℕ
number_field None = []
number_field (Some n) = decimal n

-- the bits of an energy, between tabs
abbrev pub bits_field : Float → List ℕ
bits_field energy = 9 ∷ (hex_text 16 (to_bits binary64 energy) ++ (9 ∷ []))

-- a word at fault, where there is one
abbrev pub word_field : List ℕ → Option Word → List ℕ
word_field text None = []
word_field text (Some word) = word_text Tsv (part text word)

-- a blank before each entry of a configuration but the first
abbrev pub site_gap : ℕ → List ℕ
site_gap i = cond (ltb 0 i) (32 ∷ []) []

-- an entry by its place
abbrev pub site_piece : ℕ → ℕ → List ℕ
site_piece i number = site_gap i ++ decimal number

-- a configuration
unfoldable pub sites_text : List ℕ → List ℕ
sites_text configuration = pieces site_piece 0 configuration

-- a settled design: the file's name, the reply 0, the energy and its bits, the states, the configuration
unfoldable pub settled_row : List ℕ → SettledDesign → List ℕ
settled_row path d =
    shown_bytes Tsv path ++ ((9 ∷ 48 ∷ 9 ∷ []) ++ (fixed_shown d.energy ++ (bits_field d.energy
    ++ (number_field d.states ++ ((9 ∷ []) ++ (sites_text d.configuration.now ++ (9 ∷ 9 ∷ 9 ∷ 10 ∷ [])))))))

-- any other file: its name, the number of the refusal, the place and the reason
unfoldable pub unsettled_row : List ℕ → List ℕ → Option ℕ → Spot → List ℕ → List ℕ
unsettled_row path text reply spot reason =
    shown_bytes Tsv path ++ ((9 ∷ []) ++ (number_field reply ++ ((9 ∷ 9 ∷ 9 ∷ 9 ∷ 9 ∷ []) ++ (number_field spot.line ++ ((9 ∷ [])
    ++ (word_field text spot.word ++ (9 ∷ (reason ++ (10 ∷ [])))))))))
