-- What is shown of decks, each fact as a field. proofs/Theorems.antt and proofs/Moves.antt show them of every form that keeps `Rules`, and of
-- `singles` and `runs`.
use Rattle.std.specs.Prelude.{true, false, List, ◌↔◌, ◌≡◌, ℕ, ◌≤◌, length, take, None, Some}
use Rattle.lists.specs.Find.{any}
use Rattle.lists.specs.Front.{over}
use Rattle.reply.specs.Number.{number_of, answered}
use Rattle.reply.specs.First.{LowestGiven}
use Rattle.reply.specs.declared.Refusal.TheVariants.{BadDeck}
use Rattle.deck.specs.Form.{Form, singles, runs}
use Rattle.deck.specs.Deck.{is_deck, CanBegin, begins, FirstMisfit, misfit_of, configuration_of, deck_of, too_high}
use Rattle.deck.specs.Valid.{ValidDeck}
use Rattle.deck.specs.ValidRuns.{ValidRuns}
use Rattle.deck.specs.Reading.{read_checks, read_reply, read_figures, read_entries}
use Rattle.deck.specs.Writing.{write_checks, write_reply, write_figures, write_words}
use Rattle.deck.specs.Moving.{moved_words, MovesTo, move_checks, move_reply, move_figures, move_words}

-- ---- valid decks

-- the test of document 01's form is the document's rules
pub record Document : Type 0 where
  pub valid : (words : List ℕ) → (is_deck singles words ≡ true) ↔ ValidDeck words

-- the test of the form with runs is document 02's rules
pub record DocumentRuns : Type 0 where
  pub valid : (words : List ℕ) → (is_deck runs words ≡ true) ↔ ValidRuns words

-- ---- decks and configurations

-- "scaffold 0 to 128 positions", "strand numbers in a written deck 0 to 63"
pub record Configuration (entries : List ℕ) : Type 0 where
  pub few : length entries ≤ 128
  pub strands : any too_high entries ≡ false

-- a configuration has exactly one valid deck
pub record OneDeck (form : Form) (configuration : List ℕ) : Type 0 where
  pub deck : List ℕ
  pub valid : is_deck form deck ≡ true
  pub stands : configuration_of form deck ≡ configuration
  pub only : (words : List ℕ) → is_deck form words ≡ true → configuration_of form words ≡ configuration → words ≡ deck

-- decks and configurations go over into each other
pub record Decks (form : Form) : Type 0 where
  -- writing, then reading
  pub written : (configuration : List ℕ) → Configuration configuration → is_deck form (deck_of form configuration) ≡ true
  pub back : (configuration : List ℕ) → Configuration configuration → configuration_of form (deck_of form configuration) ≡ configuration
  -- reading, then writing
  pub read : (words : List ℕ) → is_deck form words ≡ true → Configuration (configuration_of form words)
  pub again : (words : List ℕ) → is_deck form words ≡ true → deck_of form (configuration_of form words) ≡ words
  pub one : (configuration : List ℕ) → Configuration configuration → OneDeck form configuration

-- ---- the place

-- "the first word with which no valid deck can begin so; if every word fits, the word count"
pub record Places (form : Form) : Type 0 where
  -- the test for a beginning of a valid deck is right
  pub begin : (words : List ℕ) → (begins form words ≡ true) ↔ CanBegin form words
  -- the place is document 01's, and only that one is
  pub place : (words : List ℕ) → FirstMisfit form words (misfit_of form words)
  pub only : (words : List ℕ) (place : ℕ) → FirstMisfit form words place → place ≡ misfit_of form words

-- ---- the calls

-- "if several apply, the lowest is given"
pub record Replies (form : Form) : Type 0 where
  pub reading : (words entries : List ℕ) → LowestGiven (read_checks form words entries) (read_reply form words entries)
  pub writing : (configuration words : List ℕ) → LowestGiven (write_checks configuration words) (write_reply configuration words)

-- with 128 entries lent, reading refuses exactly what is no valid deck, with the place
pub record Refusals (form : Form) (words entries : List ℕ) : Type 0 where
  pub admitted : ((read_figures form words entries).number ≡ answered) ↔ (is_deck form words ≡ true)
  pub refused : ((read_figures form words entries).number ≡ number_of BadDeck) ↔ (is_deck form words ≡ false)
  pub place : (i : ℕ) → ((read_figures form words entries).place ≡ Some i) ↔ ((is_deck form words ≡ false) × FirstMisfit form words i)

-- the first lent entries, as many as a call says
abbrev pub given : ℕ → List ℕ → List ℕ
given = take

-- what writing gave, read
pub record WriteThenRead (form : Form) (configuration words entries : List ℕ) : Type 0 where
  pub figures : read_figures form (given (write_figures form configuration words).count (write_words form configuration words)) entries
      ≡ record { number = answered; count = length configuration; place = None }
  pub lent : read_entries form (given (write_figures form configuration words).count (write_words form configuration words)) entries ≡ over configuration entries

-- what reading gave, written
pub record ReadThenWrite (form : Form) (words entries lent : List ℕ) : Type 0 where
  pub figures : write_figures form (given (read_figures form words entries).count (read_entries form words entries)) lent
      ≡ record { number = answered; count = length words }
  pub written : write_words form (given (read_figures form words entries).count (read_entries form words entries)) lent ≡ over words lent

-- a call's answer, and what a second call makes of it
pub record Calls (form : Form) : Type 0 where
  pub refusals : (words entries : List ℕ) → length entries ≡ 128 → Refusals form words entries
  pub write_read : (configuration words entries : List ℕ) → (write_figures form configuration words).number ≡ answered → length entries ≡ 128
      → WriteThenRead form configuration words entries
  pub read-write : (words entries lent : List ℕ) → (read_figures form words entries).number ≡ answered → length lent ≡ 129
      → ReadThenWrite form words entries lent

-- ---- moving

-- with 129 words lent, moving refuses what reading the deck refuses, at the same place
pub record RefusesAsReading (from to : Form) (words entries lent : List ℕ) : Type 0 where
  pub number : (move_figures from to words lent).number ≡ (read_figures from words entries).number
  pub place : (move_figures from to words lent).place ≡ (read_figures from words entries).place

-- what moving gave, moved back
pub record MoveThenBack (from to : Form) (words lent again : List ℕ) : Type 0 where
  pub figures : move_figures to from (given (move_figures from to words lent).count (move_words from to words lent)) again
      ≡ record { number = answered; count = length words; place = None }
  pub written : move_words to from (given (move_figures from to words lent).count (move_words from to words lent)) again ≡ over words again

-- a valid deck moves to that of the same configuration in the other form, and from there back to the same words
pub record Moves (from to : Form) : Type 0 where
  pub moves : (words : List ℕ) → is_deck from words ≡ true → MovesTo from to words (moved_words from to words)
  -- there is no other such deck
  pub only : (words other : List ℕ) → is_deck from words ≡ true → is_deck to other ≡ true → configuration_of to other ≡ configuration_of from words
      → other ≡ moved_words from to words
  -- the call
  pub lowest : (words lent : List ℕ) → LowestGiven (move_checks from words lent) (move_reply from words lent)
  pub refusals : (words entries lent : List ℕ) → length entries ≡ 128 → length lent ≡ 129 → RefusesAsReading from to words entries lent
  pub move-back : (words lent again : List ℕ) → (move_figures from to words lent).number ≡ answered → length again ≡ 129 → MoveThenBack from to words lent again
