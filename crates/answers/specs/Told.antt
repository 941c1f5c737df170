-- All that is written of a file, for people, as JSON, and as a row of a table. Left open are the drawing of a settled configuration, the words of a reason,
-- and the other lines that can't be read.
use Rattle.std.specs.Prelude.{List, [], ◌∷◌, ◌++◌, ℕ, length, Option, None, Some}
use Rattle.std.specs.Fmt.{decimal}
use Rattle.std.specs.Io.KnownBytes.{Appends}
use lib.Chars.{codes}
use Rattle.reply.specs.Number.{number_of}
use Rattle.reply.specs.declared.Refusal.{Refusal}
use Rattle.statements.specs.declared.words.Word.{Word}
use Rattle.answers.specs.declared.Spot.{Spot}
use Rattle.answers.specs.declared.SettledDesign.{SettledDesign}
use Rattle.answers.specs.declared.names.Occupant.{Occupant}
use Rattle.answers.specs.declared.names.Occupant.TheVariants.{Nobody, Strand, Quencher, Reporter, Blocked}
use Rattle.answers.specs.declared.print.Style.{Style}
use Rattle.answers.specs.declared.print.Style.TheVariants.{People, Json, Tsv}
use Rattle.answers.specs.Names.{part, name_of, occupant_of}
use Rattle.answers.specs.Shown.{shown_bytes, json_text, word_text}
use Rattle.answers.specs.Text.{comma, pieces, count_text, counts_text, ring_text, energy_text, deck_text, json_counts_text, json_ring_text, numbers_text, json_energy_text, words_text}
use Rattle.answers.specs.TradeWords.{trade_word}
use Rattle.answers.specs.Table.{settled_row, unsettled_row}

-- ---- a file that is settled

-- what is written has a text in it that is a drawing
abbrev pub Draws : Option (List ℕ) → Option (List ℕ) → (List ℕ → List ℕ) → Type 0
Draws old new text = (drawing : List ℕ) × Appends old new (text drawing)

-- for people: the file's name, the counts, the drawing, what closes a ring, the energy, the deck
unfoldable pub settled_text : List ℕ → SettledDesign → List ℕ → List ℕ
settled_text path d drawing =
    shown_bytes People path ++ (counts_text (length d.configuration.now) (length d.strand_names.now) d.entries d.states
    ++ (drawing ++ (ring_text d.ring (length d.configuration.now) ++ (energy_text d.energy ++ deck_text d.deck.now))))

-- the name of who sits somewhere, null where nobody does
abbrev pub json_name : SettledDesign → Occupant → List ℕ
json_name d Nobody = codes "null"
json_name d (Strand i) = json_text (name_of d.text.now d.strand_names.now (Strand i))
json_name d Quencher = json_text (codes "quencher")
json_name d Reporter = json_text (codes "reporter")
json_name d Blocked = json_text (codes "blocked")

-- the name of a number of the configuration, by its place
abbrev pub name_piece : SettledDesign → ℕ → ℕ → List ℕ
name_piece d i number = comma i ++ json_name d (occupant_of (length d.strand_names.now) number)

-- the field that holds the names
unfoldable pub names_text : SettledDesign → List ℕ
names_text d = codes ",\"names\":[" ++ (pieces (name_piece d) 0 d.configuration.now ++ codes "]")

-- how each object begins
unfoldable pub json_head : List ℕ → List ℕ
json_head path = codes "{\"file\":" ++ (json_text path ++ codes ",\"reply\":")

-- as JSON
unfoldable pub json_settled : List ℕ → SettledDesign → List ℕ
json_settled path d =
    json_head path ++ (json_counts_text (length d.configuration.now) (length d.strand_names.now) d.entries d.states
    ++ (json_ring_text d.ring ++ (numbers_text (codes "configuration") d.configuration.now ++ (numbers_text (codes "blocked") d.marks.now
    ++ (names_text d ++ (json_energy_text d.energy ++ (words_text d.deck.now ++ (codes "}" ++ (10 ∷ [])))))))))

-- ---- a file that is not

-- what is written has a reason in it
abbrev pub Tells : Option (List ℕ) → Option (List ℕ) → (List ℕ → List ℕ) → Type 0
Tells old new text = (reason : List ℕ) × Appends old new (text reason)

-- the line, where there is one
abbrev pub line_text : Option ℕ → List ℕ
line_text None = []
line_text (Some n) = codes ", line " ++ decimal n

-- the word at fault, where there is one
abbrev pub at_text : List ℕ → Option Word → List ℕ
at_text text None = []
at_text text (Some word) = codes ", at " ++ word_text People (part text word)

-- the place of a reason and, on a line of its own, the reason
unfoldable pub found_text : List ℕ → Spot → List ℕ → List ℕ
found_text text spot reason = line_text spot.line ++ (at_text text spot.word ++ ((10 ∷ codes "  ") ++ (reason ++ (10 ∷ []))))

-- the word at fault as a value of JSON
abbrev pub word_value : List ℕ → Option Word → List ℕ
word_value text None = codes "null"
word_value text (Some word) = 34 ∷ (word_text Json (part text word) ++ (34 ∷ []))

-- the place of a reason and the reason, as fields
unfoldable pub json_found : List ℕ → Spot → List ℕ → List ℕ
json_found text spot reason =
    codes "\"line\":" ++ (count_text spot.line ++ (codes ",\"word\":" ++ (word_value text spot.word
    ++ (codes ",\"reason\":\"" ++ (reason ++ codes "\"")))))

-- the same, and besides the other lines that can't be read
abbrev pub TellsMore : Option (List ℕ) → Option (List ℕ) → (List ℕ → List ℕ → List ℕ) → Type 0
TellsMore old new text = (reason : List ℕ) × (others : List ℕ) × Appends old new (text reason others)

-- a file that can't be read
unfoldable pub unreadable_text : Style → List ℕ → List ℕ → Spot → List ℕ → List ℕ → List ℕ
unreadable_text People path text spot reason others =
    shown_bytes People path ++ ((10 ∷ codes "  unreadable") ++ (found_text text spot reason ++ others))
unreadable_text Json path text spot reason others =
    json_head path ++ (codes "null," ++ (json_found text spot reason ++ (codes ",\"others\":[" ++ (others ++ (codes "]}" ++ (10 ∷ []))))))
unreadable_text Tsv path text spot reason others = unsettled_row path text None spot reason

-- a file whose design is refused: the number, and the trade word
unfoldable pub refused_text : Style → List ℕ → List ℕ → Refusal → Spot → List ℕ → List ℕ
refused_text People path text refusal spot reason =
    shown_bytes People path ++ ((10 ∷ codes "  refused ") ++ (decimal (number_of refusal) ++ (codes " (" ++ (trade_word refusal ++ (codes ")" ++ found_text text spot reason)))))
refused_text Json path text refusal spot reason =
    json_head path ++ (decimal (number_of refusal) ++ (codes ",\"refused\":\"" ++ (trade_word refusal ++ (codes "\"," ++ (json_found text spot reason ++ (codes "}" ++ (10 ∷ [])))))))
refused_text Tsv path text refusal spot reason = unsettled_row path text (Some (number_of refusal)) spot reason

-- a settled one: for people with a drawing, otherwise whole
abbrev pub Settles : Option (List ℕ) → Option (List ℕ) → Style → List ℕ → SettledDesign → Type 0
Settles old new People path d = Draws old new (settled_text path d)
Settles old new Json path d = Appends old new (json_settled path d)
Settles old new Tsv path d = Appends old new (settled_row path d)
