-- Decks with runs and what reading, writing and moving them answers, worked out by hand and computed from the definitions. The numbers are
-- written out.
use Rattle.std.specs.Prelude.{List, [], ◌∷◌, map, ◌≡◌, refl, ℕ, replicate, None, Some}
use Rattle.lists.specs.Find.{first_index}
use Rattle.lists.specs.Front.{beginnings}
use Rattle.deck.specs.Form.{singles, runs}
use Rattle.deck.specs.Deck.{follow, positions, is_deck, begins, misfit_of, laid_out, configuration_of, stretches_of, deck_of}
use Rattle.deck.specs.Reading.{ReadFigures, read_figures}
use Rattle.deck.specs.Moving.{moved_words, move_figures}
use Rattle.deck.specs.Cases.{Case, ◌is◌, configuration, fault}

-- ---- reading

-- every kind of word and of fault
abbrev pub run_cases : List Case
run_cases =
    [] is fault 0
    ∷ (0x4000_0001 ∷ []) is fault 0
    ∷ (0x1000_0000 ∷ []) is configuration 0
    ∷ (0x1000_0000 ∷ 0x4000_0001 ∷ []) is fault 1
    ∷ (0x1000_0002 ∷ 0x4000_0041 ∷ []) is configuration 2
    ∷ (0x1000_0002 ∷ 0x4000_0001 ∷ 0x4000_0002 ∷ []) is configuration 2
    ∷ (0x1000_0003 ∷ 0x4000_0001 ∷ 0x3000_0001 ∷ 0x4000_0001 ∷ []) is configuration 3
    ∷ (0x1000_0004 ∷ 0x3000_0002 ∷ 0x4000_0041 ∷ []) is configuration 4
    -- positions are missing, and strand 2 could follow: the word count
    ∷ (0x1000_0002 ∷ 0x4000_0001 ∷ []) is fault 2
    -- the same strand again
    ∷ (0x1000_0002 ∷ 0x4000_0001 ∷ 0x4000_0001 ∷ []) is fault 2
    -- empties again
    ∷ (0x1000_0004 ∷ 0x3000_0002 ∷ 0x3000_0001 ∷ []) is fault 2
    -- no position left
    ∷ (0x1000_0002 ∷ 0x4000_0041 ∷ 0x4000_0002 ∷ []) is fault 2
    -- runs longer than what is left
    ∷ (0x1000_0001 ∷ 0x4000_0041 ∷ []) is fault 1
    ∷ (0x1000_0003 ∷ 0x4000_0041 ∷ 0x3000_0002 ∷ []) is fault 2
    -- strand 0, with a run of 1, 2 and 3
    ∷ (0x1000_0002 ∷ 0x4000_0000 ∷ []) is fault 1
    ∷ (0x1000_0002 ∷ 0x4000_0040 ∷ []) is fault 1
    ∷ (0x1000_0002 ∷ 0x4000_0080 ∷ []) is fault 1
    -- kind 2 is of the other form
    ∷ (0x1000_0002 ∷ 0x2000_0001 ∷ []) is fault 1
    -- the longest run, one longer, and the longest that a word can say
    ∷ (0x1000_0080 ∷ 0x4000_1fff ∷ []) is configuration 128
    ∷ (0x1000_0080 ∷ 0x4000_2001 ∷ []) is fault 1
    ∷ (0x1000_0080 ∷ 0x4fff_ffff ∷ []) is fault 1
    ∷ []

-- what the definitions answer to a case
abbrev answer_to : Case → ReadFigures
answer_to c = read_figures runs c.words (replicate 128 0)

-- the definitions answer each case as it was worked out
pub run-cases-right : map answer_to run_cases ≡ map (λ c. c.figures) run_cases
unfolding read_figures is_deck begins follow positions misfit_of first_index beginnings configuration_of laid_out
run-cases-right = refl

-- kind 4 is no word of document 01's form
pub no-run-in-singles : read_figures singles (0x1000_0001 ∷ 0x4000_0001 ∷ []) (replicate 128 0) ≡ fault 1
unfolding read_figures is_deck begins follow positions misfit_of first_index beginnings
no-run-in-singles = refl

-- ---- writing and moving

-- a configuration, and its deck in each form
pub record Stored : Type 0 where
  pub entries : List ℕ
  pub in_singles : List ℕ
  pub in_runs : List ℕ

abbrev pub stored : List ℕ → List ℕ → List ℕ → Stored
stored entries in_singles in_runs = record { entries = entries; in_singles = in_singles; in_runs = in_runs }

abbrev pub stored_cases : List Stored
stored_cases =
    stored [] (0x1000_0000 ∷ []) (0x1000_0000 ∷ [])
    ∷ stored (1 ∷ 1 ∷ []) (0x1000_0002 ∷ 0x2000_0001 ∷ 0x2000_0001 ∷ []) (0x1000_0002 ∷ 0x4000_0041 ∷ [])
    ∷ stored (1 ∷ 2 ∷ []) (0x1000_0002 ∷ 0x2000_0001 ∷ 0x2000_0002 ∷ []) (0x1000_0002 ∷ 0x4000_0001 ∷ 0x4000_0002 ∷ [])
    ∷ stored (1 ∷ 0 ∷ 1 ∷ []) (0x1000_0003 ∷ 0x2000_0001 ∷ 0x3000_0001 ∷ 0x2000_0001 ∷ []) (0x1000_0003 ∷ 0x4000_0001 ∷ 0x3000_0001 ∷ 0x4000_0001 ∷ [])
    ∷ stored (0 ∷ 0 ∷ 1 ∷ 1 ∷ []) (0x1000_0004 ∷ 0x3000_0002 ∷ 0x2000_0001 ∷ 0x2000_0001 ∷ []) (0x1000_0004 ∷ 0x3000_0002 ∷ 0x4000_0041 ∷ [])
    ∷ stored (replicate 128 63) (0x1000_0080 ∷ replicate 128 0x2000_003f) (0x1000_0080 ∷ 0x4000_1fff ∷ [])
    ∷ []

-- the configuration of a case's deck with runs, written in each form
abbrev written : Stored → Stored
written s = let entries = configuration_of runs s.in_runs in stored entries (deck_of singles entries) (deck_of runs entries)

pub written-right : map written stored_cases ≡ stored_cases
unfolding configuration_of laid_out deck_of stretches_of
written-right = refl

-- each deck of a case moved into the other form
abbrev moved : Stored → Stored
moved s = stored s.entries (moved_words runs singles s.in_runs) (moved_words singles runs s.in_singles)

pub moved-right : map moved stored_cases ≡ stored_cases
unfolding configuration_of laid_out deck_of stretches_of
moved-right = refl

-- a fault is moved with its number and its place, by the rules of the deck's own form
pub moved-fault : move_figures runs singles (0x1000_0002 ∷ 0x4000_0041 ∷ 0x4000_0002 ∷ []) (replicate 129 0) ≡ record { number = 14; count = 0; place = Some 2 }
unfolding move_figures is_deck begins follow positions misfit_of first_index beginnings
moved-fault = refl

-- 1 where another number of words is lent, though the words are no deck
pub words-lent : move_figures runs singles [] (replicate 128 0) ≡ record { number = 1; count = 0; place = None }
unfolding move_figures
words-lent = refl

pub moved-count : move_figures singles runs (0x1000_0002 ∷ 0x2000_0001 ∷ 0x2000_0001 ∷ []) (replicate 129 0) ≡ record { number = 0; count = 2; place = None }
unfolding move_figures is_deck follow positions configuration_of laid_out deck_of stretches_of
moved-count = refl
