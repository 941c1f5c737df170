-- Every valid deck of either form moves to that of the same configuration in the other, and back to the same words. Assumes nothing.
use mathlib.Core.Path.{◌≡◌, refl, sym, ap, ◌∙◌}
use mathlib.Core.Bool.{Bool, true, false, not}
use mathlib.Core.List.{List, [], ◌∷◌}
use Prim.Native.Nat.{ℕ}
use native.Mathlib.Omega.{arith}
use lib.Dec.{eqb}
use lib.ListN.{length}
use borrow.Author.Tests.{eqb-true, eq-eqb}
use Rattle.lists.specs.Front.{over}
use Rattle.lists.proofs.Front.{take-over}
use Rattle.reply.specs.Number.{answered}
use Rattle.reply.specs.First.{first_of, answer, ◌if◌}
use Rattle.reply.proofs.Lowest.{lowest-given}
use Rattle.reply.specs.declared.Refusal.TheVariants.{WrongSize, BadDeck}
use Rattle.deck.specs.Form.{Form, singles, runs}
use Rattle.deck.specs.Forms.{form_of}
use Rattle.deck.specs.Deck.{is_deck, misfit_of, configuration_of, deck_of}
use Rattle.deck.specs.Reading.{read_figures}
use Rattle.deck.specs.Moving.{moved_words, MovesTo, move_checks, move_refused, move_figures, move_words}
use Rattle.deck.specs.Theorems.{Decks, RefusesAsReading, Moves, given}
use Rattle.deck.specs.declared.DeckForm.{DeckForm}
use Rattle.deck.specs.declared.DeckForm.TheVariants.{Singles, Runs}
use Rattle.std.specs.Prelude.{None}
use Rattle.deck.proofs.Theorems.{singles-decks, runs-decks}

-- ---- what the call answers, by its conditions

module _ (from to : Form) (words lent : List ℕ) where
  module _ (size : length lent ≡ 129) (valid : is_deck from words ≡ true) where
    figures-moved : move_figures from to words lent ≡ record { number = answered; count = length (moved_words from to words); place = None }
    unfolding move_figures
    figures-moved = rw (eq-eqb (length lent) 129 size, valid)

    words-moved : move_words from to words lent ≡ over (moved_words from to words) lent
    unfolding move_words
    words-moved = rw (eq-eqb (length lent) 129 size, valid)

    -- the first lent words, as many as the call says
    given-moved : given (move_figures from to words lent).count (move_words from to words lent) ≡ moved_words from to words
    given-moved = rw (figures-moved, words-moved) (take-over (moved_words from to words) lent)

  move-admitted : (move_figures from to words lent).number ≡ answered → (length lent ≡ 129) × (is_deck from words ≡ true)
  unfolding move_figures
  move-admitted e = go (eqb (length lent) 129) refl (is_deck from words) refl e
    where
      go : (t : Bool) → eqb (length lent) 129 ≡ t → (u : Bool) → is_deck from words ≡ u
          → (answer (first_of (WrongSize if not t ∷ BadDeck if not u ∷ [])) (move_refused (misfit_of from words)) (record { number = answered; count = length (moved_words from to words); place = None })).number ≡ answered
          → (length lent ≡ 129) × (is_deck from words ≡ true)
      go true t true u e = (eqb-true (length lent) 129 t, u)
      go true t false u e = absurd (omega arith)
      go false t u d e = absurd (omega arith)

-- ---- the law, of any two forms whose decks and configurations go over into each other

module _ (from to : Form) (a : Decks from) (b : Decks to) where
  pub moves-to : (words : List ℕ) → is_deck from words ≡ true → MovesTo from to words (moved_words from to words)
  moves-to words d =
      let c = a.read words d in
      let same = b.back (configuration_of from words) c in
      record { valid = b.written (configuration_of from words) c; same = same; back = ap (deck_of from) same ∙ a.again words d }

  refuses : (words entries lent : List ℕ) → length entries ≡ 128 → length lent ≡ 129 → RefusesAsReading from to words entries lent
  unfolding move_figures read_figures
  refuses words entries lent e l = go (is_deck from words) refl
    where
      go : (t : Bool) → is_deck from words ≡ t → RefusesAsReading from to words entries lent
      go true d = record { number = rw (eq-eqb (length entries) 128 e, eq-eqb (length lent) 129 l, d); place = rw (eq-eqb (length entries) 128 e, eq-eqb (length lent) 129 l, d) }
      go false d = record { number = rw (eq-eqb (length entries) 128 e, eq-eqb (length lent) 129 l, d); place = rw (eq-eqb (length entries) 128 e, eq-eqb (length lent) 129 l, d) }

  pub moves : Moves from to
  moves =
      record {
        moves = moves-to;
        only = λ words other d valid same. sym (b.again other valid) ∙ ap (deck_of to) same;
        lowest = λ words lent. lowest-given (move_checks from words lent) tt;
        refusals = refuses;
        move-back = λ words lent again e l.
            let p = move-admitted from to words lent e in
            let m = moves-to words p.1 in
            let w = given-moved from to words lent p.0 p.1 in
            record {
              figures = rw (w, figures-moved to from (moved_words from to words) again l m.valid, m.back);
              written = rw (w, words-moved to from (moved_words from to words) again l m.valid, m.back);
            };
      }

-- ---- the two forms

pub form-decks : (form : DeckForm) → Decks (form_of form)
form-decks Singles = singles-decks
form-decks Runs = runs-decks

pub singles-to-runs : Moves singles runs
singles-to-runs = moves singles runs singles-decks runs-decks

pub runs-to-singles : Moves runs singles
runs-to-singles = moves runs singles runs-decks singles-decks
