-- What writing a deck answers, and what its lent words then hold.
use Rattle.std.specs.Prelude.{Bool, not, ◌||◌, List, [], ◌∷◌, ℕ, ltb, eqb, length, Result, Ok, Err}
use Rattle.lists.specs.Find.{any}
use Rattle.lists.specs.Front.{over}
use Rattle.reply.specs.Number.{number_of, answered, Reply}
use Rattle.reply.specs.First.{Check, ◌if◌, first_of, answer}
use Rattle.reply.specs.declared.Refusal.{Refusal}
use Rattle.reply.specs.declared.Refusal.TheVariants.{WrongSize, OutOfRange}
use Rattle.deck.specs.Form.{Form}
use Rattle.deck.specs.Deck.{deck_of, too_high}

-- document 01's number, and the number of words
pub record WriteFigures : Type 0 where
  pub number : ℕ
  pub count : ℕ

-- "a refusal carries no other figure"
abbrev pub write_refused : ℕ → WriteFigures
write_refused number = record { number = number; count = 0 }

-- the figures of what the call answers
abbrev pub write_figures_of : Result ℕ Refusal → WriteFigures
write_figures_of (Ok count) = record { number = answered; count = count }
write_figures_of (Err refusal) = write_refused (number_of refusal)

-- "scaffold 0 to 128 positions", "writing 129 words"
abbrev pub wrong_lengths : List ℕ → List ℕ → Bool
wrong_lengths configuration words = ltb 128 (length configuration) || not (eqb (length words) 129)

-- "strand numbers in a written deck 0 to 63"
abbrev pub strand_too_high : List ℕ → Bool
strand_too_high configuration = any too_high configuration

-- when writing refuses, sorted by number
abbrev pub write_checks : List ℕ → List ℕ → List Check
write_checks configuration words = WrongSize if wrong_lengths configuration words ∷ OutOfRange if strand_too_high configuration ∷ []

-- what writing replies
abbrev pub write_reply : List ℕ → List ℕ → Reply
write_reply configuration words = first_of (write_checks configuration words)

-- what writing answers
unfoldable pub write_figures : Form → List ℕ → List ℕ → WriteFigures
write_figures form configuration words =
    answer (write_reply configuration words) write_refused (record { number = answered; count = length (deck_of form configuration) })

-- "entries past the result keep their contents", and all do on a refusal
unfoldable pub write_words : Form → List ℕ → List ℕ → List ℕ
write_words form configuration words = answer (write_reply configuration words) (λ number. words) (over (deck_of form configuration) words)
