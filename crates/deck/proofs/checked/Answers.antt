-- `deck::checked` meets its contract. Assumes nothing.
use mathlib.Core.Path.{sym}
use Rattle.deck.specs.Forms.{form_of}
use Rattle.deck.proofs.Faults.{no-fault, fault-at}
use Rattle.deck.proofs.checked.Goals as goal

pub returns-in-Some : goal.returns-in-Some
returns-in-Some c =
    let f = fault-at (form_of c.args.form) c.args.words.now (sym c.in-Some.ensures) in
    rw (f.0, f.1)

pub returns-in-None : goal.returns-in-None
returns-in-None c = rw (no-fault (form_of c.args.form) c.args.words.now (sym c.in-None.ensures))
