-- `deck::write` meets its contract: at each return the checks that were passed say which holds. Assumes nothing.
use mathlib.Core.Path.{sym, ◌∙◌}
use native.Mathlib.Omega.{arith}
use lib.Dec.{ltb, eqb}
use lib.ListN.{length}
use mathlib.Core.Bool.{not}
use borrow.Author.Tests.{eqb-true, ltb-false, not-false}
use Rattle.lists.proofs.Front.{sets_over}
use Rattle.lists.proofs.Tests.{neither}
use Rattle.reply.specs.declared.Refusal.TheVariants.{WrongSize, OutOfRange}
use Rattle.deck.specs.Forms.{form_of}
use Rattle.deck.specs.Deck.{deck_of}
use Rattle.deck.specs.Writing.{write_figures, write_words}
use Rattle.reply.proofs.Asked.{admits, exits}
use Rattle.deck.proofs.Decks.{deck-length}
use Rattle.deck.proofs.write.Goals as goal

pub returns-in_err-refused_if : goal.returns-in_err-refused_if
unfolding write_figures write_words
returns-in_err-refused_if c =
    let p = exits c.from_residual.result WrongSize c.wrong_lengths.result _ c.from_residual.ensures.1 c.in_err-refused_if.ensures in
    let t = sym c.wrong_lengths.ensures ∙ p.0 in
    (rw (p.1, t), rw t)

pub returns-in_err-refused_if-2 : goal.returns-in_err-refused_if-2
unfolding write_figures write_words
returns-in_err-refused_if-2 c =
    let from = c.from_residual-in_err-refused_if-2 in
    let p = exits from.result OutOfRange c.some_too_high.result _ from.ensures.1 c.in_err-refused_if-2.ensures in
    let t = sym c.wrong_lengths.ensures ∙ admits WrongSize c.wrong_lengths.result c.in_ok-refused_if.ensures in
    let h = sym c.some_too_high.ensures ∙ p.0 in
    (rw (p.1, t, h), rw (t, h))

pub returns : goal.returns
unfolding write_figures write_words
returns c =
    let a = c.args in
    let t = sym c.wrong_lengths.ensures ∙ admits WrongSize c.wrong_lengths.result c.in_ok-refused_if.ensures in
    let h = sym c.some_too_high.ensures ∙ admits OutOfRange c.some_too_high.result c.in_ok-refused_if-2.ensures in
    let p = c.pack.ensures in
    let few = deck-length (form_of a.form) a.configuration.now in
    let u = neither (ltb 128 (length a.configuration.now)) (not (eqb (length a.words.now) 129)) t in
    let least = ltb-false 128 (length a.configuration.now) u.0 in
    let lent = eqb-true (length a.words.now) 129 (not-false _ u.1) in
    (rw (t, h, p.0), rw (t, h) (p.1 ∙ sets_over (deck_of (form_of a.form) a.configuration.now) a.words.now (omega arith)))
