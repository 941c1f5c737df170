-- Moving a deck into another form: the law, what the call answers, and what its lent words then hold.
use Rattle.std.specs.Prelude.{Bool, true, cond, not, List, [], ◌∷◌, ◌≡◌, ℕ, eqb, length, Option, None, Some, Result, Ok, Err}
use Rattle.lists.specs.Front.{over}
use Rattle.reply.specs.Number.{number_of, answered, Reply}
use Rattle.reply.specs.First.{Check, ◌if◌, first_of, answer}
use Rattle.reply.specs.declared.Refusal.TheVariants.{WrongSize, BadDeck}
use Rattle.reply.specs.declared.Refused.{Refused}
use Rattle.deck.specs.Form.{Form}
use Rattle.deck.specs.Deck.{is_deck, misfit_of, configuration_of, deck_of}
use Rattle.deck.specs.Reading.{bad_deck}

-- a deck's words in another form
abbrev pub moved_words : Form → Form → List ℕ → List ℕ
moved_words from to words = deck_of to (configuration_of from words)

-- the other words are the valid deck of the same configuration in the other form, and they move back to these
pub record MovesTo (from to : Form) (words other : List ℕ) : Type 0 where
  pub valid : is_deck to other ≡ true
  pub same : configuration_of to other ≡ configuration_of from words
  pub back : moved_words to from other ≡ words

-- the number of the reply, the number of words, and the place of the fault
pub record MoveFigures : Type 0 where
  pub number : ℕ
  pub count : ℕ
  pub place : Option ℕ

-- the figures of what the call answers
abbrev pub move_figures_of : Result ℕ Refused → MoveFigures
move_figures_of (Ok count) = record { number = answered; count = count; place = None }
move_figures_of (Err e) = record { number = number_of e.refusal; count = 0; place = e.place }

-- as writing does, moving lends 129 words
abbrev pub wrong_words : List ℕ → Bool
wrong_words lent = not (eqb (length lent) 129)

-- when moving refuses, sorted by number; a fault is one by the rules of the form that the deck is in
abbrev pub move_checks : Form → List ℕ → List ℕ → List Check
move_checks from words lent = WrongSize if wrong_words lent ∷ BadDeck if bad_deck from words ∷ []

-- what moving replies
abbrev pub move_reply : Form → List ℕ → List ℕ → Reply
move_reply from words lent = first_of (move_checks from words lent)

-- a refusal carries no other figure, except that 14 comes with its place
abbrev pub move_refused : ℕ → ℕ → MoveFigures
move_refused place number = record { number = number; count = 0; place = cond (eqb number (number_of BadDeck)) (Some place) None }

-- what moving answers
unfoldable pub move_figures : Form → Form → List ℕ → List ℕ → MoveFigures
move_figures from to words lent =
    answer (move_reply from words lent) (move_refused (misfit_of from words))
    (record { number = answered; count = length (moved_words from to words); place = None })

-- words past the result keep their contents, and all do on a refusal
unfoldable pub move_words : Form → Form → List ℕ → List ℕ → List ℕ
move_words from to words lent = answer (move_reply from words lent) (λ number. lent) (over (moved_words from to words) lent)
