-- Stored configurations: the valid decks, the place of a fault, and how decks and configurations go over into each other.
use Rattle.std.specs.Prelude.{Bool, true, false, cond, not, ◌&&◌, List, [], ◌∷◌, ◌++◌, map, ◌≡◌, ℕ, suc, ◌+◌, ◌≤◌, ◌<◌, leb, ltb, eqb, length, drop, take, replicate}
use Rattle.lists.specs.Find.{first_index}
use Rattle.lists.specs.Front.{beginnings}
use Rattle.deck.specs.Word.{kind_of, payload_of, word_of}
use Rattle.deck.specs.Form.{Form, stretch, nothing, same_run, may_follow}
use Rattle.deck.specs.declared.form.Stretch.{Stretch}

-- "Kind 1: first word only, number of positions, 0 to 128."
abbrev pub is_first : ℕ → Bool
is_first word = eqb (kind_of word) 1 && leb (payload_of word) 128

-- each stretch may follow the one before it
unfoldable pub follow : Form → Stretch → List Stretch → Bool
follow form before [] = true
follow form before (s ∷ ss) = may_follow form before s && follow form s ss

-- how many positions stretches have
unfoldable pub positions : List Stretch → ℕ
positions [] = 0
positions (s ∷ ss) = s.run + positions ss

-- a first word, and words that may follow one another, whose positions pass a test against the first word's number
abbrev pub words_fit : Form → (ℕ → ℕ → Bool) → ℕ → List ℕ → Bool
words_fit form test first rest =
    let ss = map form.stretch_of rest in
    is_first first && (follow form nothing ss && test (positions ss) (payload_of first))

-- a valid deck: "positions must add up" (Valid.antt has the rules of document 01's form one by one)
unfoldable pub is_deck : Form → List ℕ → Bool
is_deck form [] = false
is_deck form (first ∷ rest) = words_fit form eqb first rest

-- some valid deck begins with these words
abbrev pub CanBegin : Form → List ℕ → Type 0
CanBegin form words = (rest : List ℕ) × (is_deck form (words ++ rest) ≡ true)

-- the test for it: positions may be missing
unfoldable pub begins : Form → List ℕ → Bool
begins form [] = true
begins form (first ∷ rest) = words_fit form leb first rest

-- "the first word with which no valid deck can begin so; if every word fits, the word count"
pub record FirstMisfit (form : Form) (words : List ℕ) (place : ℕ) : Type 0 where
  pub within : place ≤ length words
  pub fits : (i : ℕ) → i < place → CanBegin form (take (i + 1) words)
  pub misfit : place < length words → CanBegin form (take (place + 1) words) → ⊥

-- no valid deck begins with these words
abbrev pub does_not_begin : Form → List ℕ → Bool
does_not_begin form words = not (begins form words)

-- that place: the first beginning of the words that no valid deck has
unfoldable pub misfit_of : Form → List ℕ → ℕ
misfit_of form words = first_index (does_not_begin form) (beginnings words)

-- above the highest strand number
abbrev pub too_high : ℕ → Bool
too_high occupant = ltb 63 occupant

-- stretches laid out position by position
unfoldable pub laid_out : List Stretch → List ℕ
laid_out [] = []
laid_out (s ∷ ss) = replicate s.run s.occupant ++ laid_out ss

-- the configuration that a valid deck stands for
unfoldable pub configuration_of : Form → List ℕ → List ℕ
configuration_of form words = laid_out (map form.stretch_of (drop 1 words))

-- stretches with one more position in front, which joins the first stretch or is one of its own
abbrev pub in_front : Form → ℕ → List Stretch → List Stretch
in_front form occupant [] = stretch occupant 1 ∷ []
in_front form occupant (s ∷ ss) = cond (same_run form occupant s.occupant) (stretch occupant (suc s.run) ∷ ss) (stretch occupant 1 ∷ s ∷ ss)

-- the stretches of a configuration
unfoldable pub stretches_of : Form → List ℕ → List Stretch
stretches_of form [] = []
stretches_of form (occupant ∷ rest) = in_front form occupant (stretches_of form rest)

-- the deck of a configuration
unfoldable pub deck_of : Form → List ℕ → List ℕ
deck_of form configuration = word_of 1 (length configuration) ∷ map form.word_for (stretches_of form configuration)
