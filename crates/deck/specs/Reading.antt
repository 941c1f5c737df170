-- What reading a deck answers, and what its lent entries then hold.
use Rattle.std.specs.Prelude.{Bool, cond, not, List, [], ◌∷◌, ℕ, eqb, length, Option, None, Some, Result, Ok, Err}
use Rattle.lists.specs.Front.{over}
use Rattle.reply.specs.Number.{number_of, answered, Reply}
use Rattle.reply.specs.First.{Check, ◌if◌, first_of, answer}
use Rattle.reply.specs.declared.Refusal.TheVariants.{WrongSize, BadDeck}
use Rattle.reply.specs.declared.Refused.{Refused}
use Rattle.deck.specs.Form.{Form}
use Rattle.deck.specs.Deck.{is_deck, misfit_of, configuration_of}

-- document 01's number, the number of positions, and the place of the fault
pub record ReadFigures : Type 0 where
  pub number : ℕ
  pub count : ℕ
  pub place : Option ℕ

-- the figures of what the call answers
abbrev pub read_figures_of : Result ℕ Refused → ReadFigures
read_figures_of (Ok count) = record { number = answered; count = count; place = None }
read_figures_of (Err e) = record { number = number_of e.refusal; count = 0; place = e.place }

-- "reading lends 128 entries"
abbrev pub wrong_entries : List ℕ → Bool
wrong_entries entries = not (eqb (length entries) 128)

-- "a fault in a deck's words, too many of them included, is 14 and never 1"
abbrev pub bad_deck : Form → List ℕ → Bool
bad_deck form words = not (is_deck form words)

-- when reading refuses, sorted by number
abbrev pub read_checks : Form → List ℕ → List ℕ → List Check
read_checks form words entries = WrongSize if wrong_entries entries ∷ BadDeck if bad_deck form words ∷ []

-- what reading replies
abbrev pub read_reply : Form → List ℕ → List ℕ → Reply
read_reply form words entries = first_of (read_checks form words entries)

-- "a refusal carries no other figure, except that 14 also gives a word place"
abbrev pub read_refused : ℕ → ℕ → ReadFigures
read_refused place number = record { number = number; count = 0; place = cond (eqb number (number_of BadDeck)) (Some place) None }

-- what reading answers
unfoldable pub read_figures : Form → List ℕ → List ℕ → ReadFigures
read_figures form words entries =
    answer (read_reply form words entries) (read_refused (misfit_of form words))
    (record { number = answered; count = length (configuration_of form words); place = None })

-- "entries past the result keep their contents", and all do on a refusal
unfoldable pub read_entries : Form → List ℕ → List ℕ → List ℕ
read_entries form words entries = answer (read_reply form words entries) (λ number. entries) (over (configuration_of form words) entries)
