-- What specs/Theorems.antt states of every form that keeps the rules, and of the two forms. Assumes nothing.
use mathlib.Core.Path.{◌≡◌, refl, sym, ap, subst, ◌∙◌}
use mathlib.Core.Bool.{Bool, true, false, not, ◌||◌, false≢true, true≢false}
use mathlib.Core.List.{List, [], ◌∷◌}
use Prim.Native.Nat.{ℕ, ◌≤◌, ◌<◌}
use native.Mathlib.Omega.{arith}
use lib.Dec.{ltb, eqb}
use lib.ListN.{length}
use borrow.Author.Tests.{ltb-false, le-ltb, eqb-true, eq-eqb}
use Rattle.lists.specs.Find.{any}
use Rattle.lists.specs.Front.{over}
use Rattle.lists.proofs.Front.{take-over}
use Rattle.reply.specs.Number.{number_of, answered}
use Rattle.reply.specs.First.{first_of, answer, ◌if◌}
use Rattle.reply.proofs.Lowest.{lowest-given}
use Rattle.reply.specs.declared.Refusal.TheVariants.{WrongSize, OutOfRange, BadDeck}
use Rattle.deck.specs.Form.{Form, Rules, singles, runs}
use Rattle.deck.specs.Deck.{is_deck, FirstMisfit, misfit_of, configuration_of, deck_of, too_high}
use Rattle.deck.specs.Reading.{ReadFigures, read_checks, read_refused, read_figures, read_entries}
use Rattle.deck.specs.Writing.{write_checks, write_refused, write_figures, write_words}
use Rattle.deck.specs.Theorems.{Document, DocumentRuns, Configuration, Decks, Places, Replies, Refusals, Calls, given}
use Rattle.deck.proofs.Singles.{singles-rules}
use Rattle.deck.proofs.Runs.{runs-rules}
use Rattle.deck.proofs.Decks.{deck-valid, deck-configuration, configuration-few, configuration-strands, configuration-deck}
use Rattle.deck.proofs.Valid.{valid-right}
use Rattle.deck.proofs.ValidRuns.{valid-runs-right}
use Rattle.std.specs.Prelude.{None, Some}
use Rattle.deck.proofs.Beginning.{begins-right, misfit-right}

pub replies : (form : Form) → Replies form
replies form =
    record {
      reading = λ words entries. lowest-given (read_checks form words entries) tt;
      writing = λ configuration words. lowest-given (write_checks configuration words) tt;
    }

-- ---- what the calls answer, by their conditions

module _ (form : Form) (words entries : List ℕ) where
  module _ (lent : length entries ≡ 128) where
    figures-valid : is_deck form words ≡ true → read_figures form words entries ≡ record { number = answered; count = length (configuration_of form words); place = None }
    unfolding read_figures
    figures-valid d = rw (eq-eqb (length entries) 128 lent, d)

    entries-valid : is_deck form words ≡ true → read_entries form words entries ≡ over (configuration_of form words) entries
    unfolding read_entries
    entries-valid d = rw (eq-eqb (length entries) 128 lent, d)

    figures-fault : is_deck form words ≡ false → read_figures form words entries ≡ record { number = number_of BadDeck; count = 0; place = Some (misfit_of form words) }
    unfolding read_figures
    figures-fault d = rw (eq-eqb (length entries) 128 lent, d)

  read-admitted : (read_figures form words entries).number ≡ answered → (length entries ≡ 128) × (is_deck form words ≡ true)
  unfolding read_figures
  read-admitted e = go (eqb (length entries) 128) refl (is_deck form words) refl e
    where
      go : (t : Bool) → eqb (length entries) 128 ≡ t → (u : Bool) → is_deck form words ≡ u
          → (answer (first_of (WrongSize if not t ∷ BadDeck if not u ∷ [])) (read_refused (misfit_of form words)) (record { number = answered; count = length (configuration_of form words); place = None })).number ≡ answered
          → (length entries ≡ 128) × (is_deck form words ≡ true)
      go true t true u e = (eqb-true (length entries) 128 t, u)
      go true t false u e = absurd (omega arith)
      go false t u d e = absurd (omega arith)

module _ (form : Form) (configuration words : List ℕ) where
  module _ (few : length configuration ≤ 128) (lent : length words ≡ 129) (strands : any too_high configuration ≡ false) where
    figures-written : write_figures form configuration words ≡ record { number = answered; count = length (deck_of form configuration) }
    unfolding write_figures
    figures-written = rw (le-ltb 128 (length configuration) few, eq-eqb (length words) 129 lent, strands)

    words-written : write_words form configuration words ≡ over (deck_of form configuration) words
    unfolding write_words
    words-written = rw (le-ltb 128 (length configuration) few, eq-eqb (length words) 129 lent, strands)

  write-admitted : (write_figures form configuration words).number ≡ answered → (length configuration ≤ 128) × (length words ≡ 129) × (any too_high configuration ≡ false)
  unfolding write_figures
  write-admitted e = go (ltb 128 (length configuration)) refl (eqb (length words) 129) refl (any too_high configuration) refl e
    where
      go : (t : Bool) → ltb 128 (length configuration) ≡ t → (u : Bool) → eqb (length words) 129 ≡ u → (v : Bool) → any too_high configuration ≡ v
          → (answer (first_of (WrongSize if (t || not u) ∷ OutOfRange if v ∷ [])) write_refused (record { number = answered; count = length (deck_of form configuration) })).number ≡ answered
          → (length configuration ≤ 128) × (length words ≡ 129) × (any too_high configuration ≡ false)
      go false t true u false v e = (ltb-false 128 (length configuration) t, eqb-true (length words) 129 u, v)
      go false t true u true v e = absurd (omega arith)
      go false t false u w v e = absurd (omega arith)
      go true t s u w v e = absurd (omega arith)

module _ (form : Form) (rules : Rules form) where
  read_back : (words : List ℕ) → is_deck form words ≡ true → Configuration (configuration_of form words) × (deck_of form (configuration_of form words) ≡ words)
  unfolding is_deck
  read_back [] d = absurd (false≢true d)
  read_back (first ∷ rest) d =
      (record { few = configuration-few form (first ∷ rest) d; strands = configuration-strands form rules first rest d }, configuration-deck form rules first rest d)

  pub decks : Decks form
  decks =
      record {
        written = λ c k. deck-valid form rules c k.few k.strands;
        back = λ c k. deck-configuration form rules c k.few k.strands;
        read = λ words d. (read_back words d).0;
        again = λ words d. (read_back words d).1;
        one = λ c k.
            record {
              deck = deck_of form c;
              valid = deck-valid form rules c k.few k.strands;
              stands = deck-configuration form rules c k.few k.strands;
              only = λ words d e. sym (read_back words d).1 ∙ ap (deck_of form) e;
            };
      }

  same_place : (words : List ℕ) (i j : ℕ) → FirstMisfit form words i → FirstMisfit form words j → i < j → ⊥
  same_place words i j p q h = let u = q.within in p.misfit (omega arith) (q.fits i h)

  pub places : Places form
  places =
      record {
        begin = begins-right form rules;
        place = misfit-right form rules;
        only = λ words i m.
            let p = same_place words i (misfit_of form words) m (misfit-right form rules words) in
            let q = same_place words (misfit_of form words) i (misfit-right form rules words) m in
            omega (arith, p, q);
      }

  refusals : (words entries : List ℕ) → length entries ≡ 128 → Refusals form words entries
  refusals words entries lent = go (is_deck form words) refl
    where
      go : (t : Bool) → is_deck form words ≡ t → Refusals form words entries
      go true d =
          let e = figures-valid form words entries lent d in
          let n : (read_figures form words entries).number ≡ answered = ap (λ (f : ReadFigures). f.number) e in
          record {
            admitted = (λ m. d, λ t. n);
            refused = (λ m. absurd (let z : answered ≡ number_of BadDeck = sym n ∙ m in omega arith), λ f. absurd (true≢false (sym d ∙ f)));
            place = λ i. (λ p. absurd (let z : ◌≡◌ {A = ℕ} 0 1 = cc in omega arith), λ p. absurd (true≢false (sym d ∙ p.0)));
          }
      go false d =
          let e = figures-fault form words entries lent d in
          let n : (read_figures form words entries).number ≡ number_of BadDeck = ap (λ (f : ReadFigures). f.number) e in
          record {
            admitted = (λ m. absurd (let z : number_of BadDeck ≡ answered = sym n ∙ m in omega arith), λ t. absurd (false≢true (sym d ∙ t)));
            refused = (λ m. d, λ f. n);
            place = λ i. (
              λ p. let q : misfit_of form words ≡ i = cc in (d, subst (FirstMisfit form words) q (misfit-right form rules words)),
              λ p. ap (λ (f : ReadFigures). f.place) e ∙ ap Some (sym (places.only words i p.1)),
            );
          }

  pub calls : Calls form
  calls =
      record {
        refusals = refusals;
        write_read = λ c words entries e lent.
            let a = write-admitted form c words e in
            let w : given (write_figures form c words).count (write_words form c words) ≡ deck_of form c = rw (figures-written form c words a.0 a.1 a.2, words-written form c words a.0 a.1 a.2) (take-over (deck_of form c) words) in
            let d = deck-valid form rules c a.0 a.2 in
            let b = deck-configuration form rules c a.0 a.2 in
            record {
              figures = rw (w, figures-valid form (deck_of form c) entries lent d, b);
              lent = rw (w, entries-valid form (deck_of form c) entries lent d, b);
            };
        read-write = λ words entries lent e n.
            let a = read-admitted form words entries e in
            let c = configuration_of form words in
            let w : given (read_figures form words entries).count (read_entries form words entries) ≡ c = rw (figures-valid form words entries a.0 a.1, entries-valid form words entries a.0 a.1) (take-over c entries) in
            let r = read_back words a.1 in
            record {
              figures = rw (w, figures-written form c lent r.0.few n r.0.strands, r.1);
              written = rw (w, words-written form c lent r.0.few n r.0.strands, r.1);
            };
      }

-- ---- document 01's form

pub document : Document
document = record { valid = valid-right }

pub singles-decks : Decks singles
singles-decks = decks singles singles-rules

pub singles-places : Places singles
singles-places = places singles singles-rules

pub singles-calls : Calls singles
singles-calls = calls singles singles-rules

-- ---- the form with runs

pub document-runs : DocumentRuns
document-runs = record { valid = valid-runs-right }

pub runs-decks : Decks runs
runs-decks = decks runs runs-rules

pub runs-places : Places runs
runs-places = places runs runs-rules

pub runs-calls : Calls runs
runs-calls = calls runs runs-rules
