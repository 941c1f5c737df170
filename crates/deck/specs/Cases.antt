-- Decks of document 01's form and what reading them answers, and configurations and what writing them answers, worked out by hand and computed
-- from the definitions. The numbers are document 01's own, written out.
use Rattle.std.specs.Prelude.{List, [], ◌∷◌, map, ◌≡◌, refl, ℕ, replicate, None, Some}
use Rattle.lists.specs.Find.{first_index, any}
use Rattle.lists.specs.Front.{beginnings}
use Rattle.deck.specs.Form.{singles}
use Rattle.deck.specs.Deck.{follow, positions, is_deck, begins, misfit_of, laid_out, configuration_of, stretches_of, deck_of}
use Rattle.deck.specs.Reading.{ReadFigures, read_figures}
use Rattle.deck.specs.Writing.{WriteFigures, write_figures}

-- ---- reading

-- a deck, and what reading it into 128 entries answers
pub record Case : Type 0 where
  pub words : List ℕ
  pub figures : ReadFigures

infix 68 ◌is◌
-- `words is figures`, as the cases are written
abbrev pub ◌is◌ : List ℕ → ReadFigures → Case
words is figures = record { words = words; figures = figures }

-- an answer with so many positions
abbrev pub configuration : ℕ → ReadFigures
configuration count = record { number = 0; count = count; place = None }

-- refusal 14 with its place
abbrev pub fault : ℕ → ReadFigures
fault place = record { number = 14; count = 0; place = Some place }

-- so many words of strand 1
abbrev pub strands : ℕ → List ℕ
strands n = replicate n 0x2000_0001

-- every kind of fault, at its first and its last place
abbrev pub cases : List Case
cases =
    [] is fault 0
    ∷ (0x1000_0000 ∷ []) is configuration 0
    ∷ (0x1000_0000 ∷ 0x3000_0001 ∷ []) is fault 1
    ∷ (0x1000_0000 ∷ 0x1000_0000 ∷ []) is fault 1
    ∷ (0x1000_0081 ∷ []) is fault 0
    ∷ (0x2000_0001 ∷ []) is fault 0
    ∷ (0x1000_0001 ∷ []) is fault 1
    ∷ (0x1000_0002 ∷ 0x3000_0001 ∷ []) is fault 2
    ∷ (0x1000_0002 ∷ 0x3000_0003 ∷ []) is fault 1
    ∷ (0x1000_0002 ∷ 0x3000_0000 ∷ []) is fault 1
    ∷ (0x1000_0002 ∷ 0x2000_0000 ∷ []) is fault 1
    ∷ (0x1000_0002 ∷ 0x2000_0040 ∷ []) is fault 1
    ∷ (0x1000_0002 ∷ 0x1000_0002 ∷ []) is fault 1
    ∷ (0x1000_0002 ∷ 0x3000_0002 ∷ 0x3000_0001 ∷ []) is fault 2
    ∷ (0x1000_0001 ∷ 0x2000_0001 ∷ 0x2000_0001 ∷ []) is fault 2
    ∷ (0x1000_0003 ∷ 0x3000_0002 ∷ 0x2000_0001 ∷ 0x3000_0001 ∷ []) is fault 3
    ∷ (0x1000_0003 ∷ 0x2000_0001 ∷ 0x3000_0001 ∷ []) is fault 3
    ∷ (0x1000_0080 ∷ strands 127) is fault 128
    ∷ (0x1000_0080 ∷ strands 128) is configuration 128
    ∷ (0x1000_0080 ∷ strands 129) is fault 129
    ∷ (0x1000_0080 ∷ strands 200) is fault 129
    ∷ []

-- what the definitions answer to a case
abbrev answer_to : Case → ReadFigures
answer_to c = read_figures singles c.words (replicate 128 0)

-- the definitions answer each case as it was worked out
pub cases-right : map answer_to cases ≡ map (λ c. c.figures) cases
unfolding read_figures is_deck begins follow positions misfit_of first_index beginnings configuration_of laid_out
cases-right = refl

-- 1 where another number of entries is lent, though the words are no deck
pub entries-lent : read_figures singles [] (replicate 127 0) ≡ record { number = 1; count = 0; place = None }
unfolding read_figures
entries-lent = refl

-- ---- writing

-- a configuration, the number of lent words, and what writing answers
pub record WriteCase : Type 0 where
  pub configuration : List ℕ
  pub lent : ℕ
  pub figures : WriteFigures

-- written as so many words
abbrev pub written : List ℕ → ℕ → ℕ → WriteCase
written configuration lent count = record { configuration = configuration; lent = lent; figures = record { number = 0; count = count } }

-- refused with this number
abbrev pub refused : List ℕ → ℕ → ℕ → WriteCase
refused configuration lent number = record { configuration = configuration; lent = lent; figures = record { number = number; count = 0 } }

abbrev pub write_cases : List WriteCase
write_cases =
    written [] 129 1
    ∷ written (1 ∷ 1 ∷ 0 ∷ 0 ∷ 63 ∷ []) 129 5
    ∷ refused (64 ∷ []) 129 9
    ∷ refused (64 ∷ []) 128 1
    ∷ refused (replicate 129 0) 129 1
    ∷ []

-- what the definitions answer to a case
abbrev write_answer_to : WriteCase → WriteFigures
write_answer_to c = write_figures singles c.configuration (replicate c.lent 0)

pub write-cases-right : map write_answer_to write_cases ≡ map (λ c. c.figures) write_cases
unfolding write_figures any deck_of stretches_of
write-cases-right = refl
