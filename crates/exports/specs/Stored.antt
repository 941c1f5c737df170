-- The calls on decks in the form that a number names, for callers outside.
use Rattle.std.specs.Prelude.{cond, List, ℕ, eqb, None, Option, Some}
use Rattle.reply.specs.Number.{number_of}
use Rattle.reply.specs.declared.Refusal.TheVariants.{WrongSize}
use Rattle.deck.specs.declared.DeckForm.{DeckForm}
use Rattle.deck.specs.declared.DeckForm.TheVariants.{Singles, Runs}
use Rattle.deck.specs.Forms.{form_of, other_form}
use Rattle.deck.specs.Reading.{ReadFigures, read_figures, read_entries}
use Rattle.deck.specs.Writing.{WriteFigures, write_figures, write_words}
use Rattle.deck.specs.Moving.{MoveFigures, move_figures, move_words, MovesTo}

-- 0 is document 01's form, 1 the form with runs, and no other number names a form
abbrev pub form_numbered : ℕ → Option DeckForm
form_numbered number = cond (eqb number 0) (Some Singles) (cond (eqb number 1) (Some Runs) None)

-- reading; a number that names no form is 1
abbrev pub read_in : Option DeckForm → List ℕ → List ℕ → ReadFigures
read_in (Some form) words entries = read_figures (form_of form) words entries
read_in None words entries = record { number = number_of WrongSize; count = 0; place = None }

-- the lent entries after it
abbrev pub entries_in : Option DeckForm → List ℕ → List ℕ → List ℕ
entries_in (Some form) words entries = read_entries (form_of form) words entries
entries_in None words entries = entries

-- writing
abbrev pub write_in : Option DeckForm → List ℕ → List ℕ → WriteFigures
write_in (Some form) configuration words = write_figures (form_of form) configuration words
write_in None configuration words = record { number = number_of WrongSize; count = 0 }

-- the lent words after it
abbrev pub words_in : Option DeckForm → List ℕ → List ℕ → List ℕ
words_in (Some form) configuration words = write_words (form_of form) configuration words
words_in None configuration words = words

-- moving a deck of that form into the other
abbrev pub move_from : Option DeckForm → List ℕ → List ℕ → MoveFigures
move_from (Some form) words moved = move_figures (form_of form) (form_of (other_form form)) words moved
move_from None words moved = record { number = number_of WrongSize; count = 0; place = None }

-- the lent words after it
abbrev pub moved_from : Option DeckForm → List ℕ → List ℕ → List ℕ
moved_from (Some form) words moved = move_words (form_of form) (form_of (other_form form)) words moved
moved_from None words moved = moved

-- the other words are those that the deck moves to
abbrev pub MovesFrom : Option DeckForm → List ℕ → List ℕ → Type 0
MovesFrom (Some form) words other = MovesTo (form_of form) (form_of (other_form form)) words other
MovesFrom None words other = ⊥
