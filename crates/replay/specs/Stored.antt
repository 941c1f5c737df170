-- Decks in the words of a line, and what a line about one has to say, its kind's own word left out: the words of the question, then what the
-- definition answers. What the call is lent to write into stands beside.
use Rattle.std.specs.Prelude.{◌≡◌, ℕ, ◌⊎◌, List, take}
use Rattle.decimals.specs.Digits.{digits_in}
use Rattle.exports.specs.Stored.{form_numbered, read_in, entries_in, write_in, words_in, move_from, moved_from}
use Rattle.replay.specs.Text.{up_to, past, texts, Decimal}
use Rattle.replay.specs.Says.{blank, ok, SaysRefused}
use Rattle.replay.specs.Kinds.{letters, word, later}
use Rattle.replay.specs.Places.{Places, SaysPlaces}

-- 8 hex digits for each word
abbrev pub deck_text : List ℕ → List ℕ
deck_text deck = texts (digits_in 16 8) deck

-- a word that is a deck; one with no words is `-`
abbrev pub Deck : List ℕ → List ℕ → Type 0
Deck word deck = letters word ≡ deck_text deck

-- `ok DECK`
pub record SaysStored (words : List ℕ) (number : ℕ) (deck : List ℕ) : Type 0 where
  pub answered : number ≡ 0
  pub first : up_to blank words ≡ ok
  pub second : Deck (past blank words) deck

-- a call that writes a deck: refused, or the deck
abbrev pub SaysDeck : List ℕ → ℕ → List ℕ → Type 0
SaysDeck words number deck = SaysRefused words number ⊎ SaysStored words number deck

-- FORM DECK: the configuration that is read
pub record ReadLine (words : List ℕ) : Type 0 where
  pub form : ℕ
  pub deck : List ℕ
  pub lent : List ℕ
  pub first : Decimal (word words) form
  pub second : Deck (word (later words)) deck
  pub answer :
      SaysPlaces (later (later words)) (read_in (form_numbered form) deck lent).number
      (take (read_in (form_numbered form) deck lent).count (entries_in (form_numbered form) deck lent))

-- FORM PLACES: the deck that is written
pub record WriteLine (words : List ℕ) : Type 0 where
  pub form : ℕ
  pub configuration : List ℕ
  pub lent : List ℕ
  pub first : Decimal (word words) form
  pub second : Places (word (later words)) configuration
  pub answer :
      SaysDeck (later (later words)) (write_in (form_numbered form) configuration lent).number
      (take (write_in (form_numbered form) configuration lent).count (words_in (form_numbered form) configuration lent))

-- FORM DECK: the deck of the other form that it is moved to
pub record MoveLine (words : List ℕ) : Type 0 where
  pub form : ℕ
  pub deck : List ℕ
  pub lent : List ℕ
  pub first : Decimal (word words) form
  pub second : Deck (word (later words)) deck
  pub answer :
      SaysDeck (later (later words)) (move_from (form_numbered form) deck lent).number
      (take (move_from (form_numbered form) deck lent).count (moved_from (form_numbered form) deck lent))
