-- `deck::move_deck` meets its contract: a fault that was found is the place; where none was, the deck is read and written in the other form.
-- Assumes nothing.
use mathlib.Core.Path.{◌≡◌, ap, ap₂, ◌∙◌}
use mathlib.Core.Bool.{true}
use mathlib.Core.List.{List}
use Prim.Native.Nat.{ℕ, ◌≤◌}
use native.Mathlib.Omega.{arith}
use lib.ListN.{length, take, replicate, length-take}
use lib.Seq.{sets}
use borrow.Author.Rules.{rules}
use borrow.Author.Tests.{eqb-true, not-false}
use Rattle.lists.specs.Front.{over}
use Rattle.lists.proofs.Front.{sets_over, take-over}
use Rattle.reply.specs.declared.Refusal.TheVariants.{WrongSize}
use Rattle.deck.specs.Form.{Form}
use Rattle.deck.specs.Forms.{form_of, other_form}
use Rattle.deck.specs.Deck.{is_deck, configuration_of, deck_of}
use Rattle.deck.specs.Moving.{moved_words, wrong_words, move_figures, move_words}
use Rattle.reply.proofs.Asked.{admits, exits_nowhere}
use Rattle.reply.proofs.Bare.{same-error}
use Rattle.deck.proofs.Decks.{configuration-few, deck-length}
use Rattle.deck.proofs.Faults.{valid, faulty}
use Rattle.deck.proofs.Moves.{moves-to, form-decks}
use Rattle.deck.proofs.move_deck.Goals as goal

pub returns-in_err-refused_if-clause-result_value : goal.returns-in_err-refused_if-clause-result_value
unfolding move_figures
returns-in_err-refused_if-clause-result_value c =
    let p = exits_nowhere c.from_residual.result WrongSize (wrong_words c.args.moved.now) _ c.from_residual.ensures.1 c.in_err-refused_if.ensures in
    rw (p.1, p.0)

pub returns-in_err-refused_if-clause-moved_after : goal.returns-in_err-refused_if-clause-moved_after
unfolding move_words
returns-in_err-refused_if-clause-moved_after c =
    let p = exits_nowhere c.from_residual.result WrongSize (wrong_words c.args.moved.now) _ c.from_residual.ensures.1 c.in_err-refused_if.ensures in
    rw p.0

pub returns-in_err-checked-clause-result_value : goal.returns-in_err-checked-clause-result_value
unfolding move_figures
returns-in_err-checked-clause-result_value c =
    let a = c.args in
    let t = admits WrongSize (wrong_words a.moved.now) c.in_ok-refused_if.ensures in
    let f = faulty (form_of a.from) a.words.now c.in_err-checked.ensures in
    rw (same-error _ c.from_residual-in_err-checked.ensures, t, f.0, f.1)

pub returns-in_err-checked-clause-moved_after : goal.returns-in_err-checked-clause-moved_after
unfolding move_words
returns-in_err-checked-clause-moved_after c =
    let a = c.args in
    let t = admits WrongSize (wrong_words a.moved.now) c.in_ok-refused_if.ensures in
    let f = faulty (form_of a.from) a.words.now c.in_err-checked.ensures in
    rw (t, f.0)

pub unpack-count-requires : goal.unpack-count-requires
unpack-count-requires c = (valid (form_of c.args.from) c.args.words.now c.in_ok-checked.ensures, search rules)

-- what was read is the configuration
configuration : (form : Form) (words entries : List ℕ) (count : ℕ) → is_deck form words ≡ true
    → (count ≡ length (configuration_of form words)) × (entries ≡ sets (replicate 128 0) 0 (configuration_of form words))
    → take count entries ≡ configuration_of form words
configuration form words entries count v u =
    let read = configuration_of form words in
    ap₂ take u.0 (u.1 ∙ sets_over read (replicate 128 0) (configuration-few form words v)) ∙ take-over read (replicate 128 0)

-- and it is of 128 positions at most
few-read : (form : Form) (words : List ℕ) (n : ℕ) → is_deck form words ≡ true → n ≡ length (configuration_of form words) → n ≤ 128
few-read form words n v e = let few = configuration-few form words v in omega arith

pub slice_bounds-entries-end : goal.slice_bounds-entries-end
slice_bounds-entries-end c =
    let v = valid (form_of c.args.from) c.args.words.now c.in_ok-checked.ensures in
    omega (arith, few-read (form_of c.args.from) c.args.words.now c.unpack-count.result v c.unpack-count.ensures.0, c.unpack-count.auto.entries)

pub slice_bounds-pack-end : goal.slice_bounds-pack-end
slice_bounds-pack-end c =
    let v = valid (form_of c.args.from) c.args.words.now c.in_ok-checked.ensures in
    simp length-take (omega (arith, few-read (form_of c.args.from) c.args.words.now c.unpack-count.result v c.unpack-count.ensures.0, c.unpack-count.auto.entries))

pub returns : goal.returns
unfolding move_figures move_words
returns c =
    let a = c.args in
    let from = form_of a.from in
    let to = form_of (other_form a.from) in
    let words = a.words.now in
    let moved = a.moved.now in
    let t = admits WrongSize (wrong_words moved) c.in_ok-refused_if.ensures in
    let lent = eqb-true (length moved) 129 (not-false _ t) in
    let v = valid from words c.in_ok-checked.ensures in
    let p = c.pack.ensures in
    let deck = ap₂ deck_of (ap form_of c.other.ensures) (configuration from words c.unpack-count.new.entries c.unpack-count.result v c.unpack-count.ensures) in
    let count : c.pack.result ≡ length (moved_words from to words) = p.0 ∙ ap length deck in
    let few = configuration-few from words v in
    let room = deck-length to (configuration_of from words) in
    let written : c.pack.new.words ≡ over (moved_words from to words) moved =
    p.1 ∙ ap (sets moved 0) deck ∙ sets_over (moved_words from to words) moved (omega arith) in
    let result : take c.pack.result c.pack.new.words ≡ moved_words from to words =
    ap₂ take count written ∙ take-over (moved_words from to words) moved in
    record {
      result_value = rw (t, v, count);
      moved_after = rw (t, v) written;
      moves_to = λ e. rw result (moves-to from to (form-decks a.from) (form-decks (other_form a.from)) words v);
    }
