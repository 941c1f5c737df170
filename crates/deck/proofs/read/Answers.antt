-- `deck::read` meets its contract: a fault that was found is the place; where none was, the deck is valid. Assumes nothing.
use mathlib.Core.Path.{◌∙◌}
use native.Mathlib.Omega.{arith}
use lib.ListN.{length}
use borrow.Author.Tests.{eqb-true, not-false}
use Rattle.lists.proofs.Front.{sets_over}
use Rattle.reply.specs.declared.Refusal.TheVariants.{WrongSize}
use Rattle.deck.specs.Forms.{form_of}
use Rattle.deck.specs.Deck.{configuration_of}
use Rattle.deck.specs.Reading.{wrong_entries, read_figures, read_entries}
use Rattle.reply.proofs.Asked.{admits, exits_nowhere}
use Rattle.reply.proofs.Bare.{same-error}
use Rattle.deck.proofs.Decks.{configuration-few}
use Rattle.deck.proofs.Faults.{valid, faulty}
use Rattle.deck.proofs.read.Goals as goal

pub returns-in_err-refused_if : goal.returns-in_err-refused_if
unfolding read_figures read_entries
returns-in_err-refused_if c =
    let p = exits_nowhere c.from_residual.result WrongSize (wrong_entries c.args.entries.now) _ c.from_residual.ensures.1 c.in_err-refused_if.ensures in
    (rw (p.1, p.0), rw p.0)

pub returns-in_err-checked : goal.returns-in_err-checked
unfolding read_figures read_entries
returns-in_err-checked c =
    let a = c.args in
    let t = admits WrongSize (wrong_entries a.entries.now) c.in_ok-refused_if.ensures in
    let f = faulty (form_of a.form) a.words.now c.in_err-checked.ensures in
    (rw (same-error _ c.from_residual-in_err-checked.ensures, t, f.0, f.1), rw (t, f.0))

pub unpack-requires : goal.unpack-requires
unpack-requires c = (valid (form_of c.args.form) c.args.words.now c.in_ok-checked.ensures, eqb-true (length c.args.entries.now) 128 (not-false _ (admits WrongSize (wrong_entries c.args.entries.now) c.in_ok-refused_if.ensures)))

pub returns : goal.returns
unfolding read_figures read_entries
returns c =
    let a = c.args in
    let t = admits WrongSize (wrong_entries a.entries.now) c.in_ok-refused_if.ensures in
    let v = valid (form_of a.form) a.words.now c.in_ok-checked.ensures in
    let u = c.unpack.ensures in
    let few = configuration-few (form_of a.form) a.words.now v in
    let lent = eqb-true (length a.entries.now) 128 (not-false _ t) in
    (rw (t, v, u.0), rw (t, v) (u.1 ∙ sets_over (configuration_of (form_of a.form) a.words.now) a.entries.now (omega arith)))
