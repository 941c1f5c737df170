-- `deck::writing::Stretches` gives nothing where nothing is left. Assumes nothing.
use Rattle.std.proofs.Common.{refl}
use Rattle.deck.specs.Deck.{stretches_of}
use Rattle.std.proofs.lemmas.List.{nil_from_length}
use Rattle.deck.proofs.writing.StretchesIterator.next.Goals as goal

pub returns-in_err-first-clause-steps : goal.returns-in_err-first-clause-steps
unfolding stretches_of
returns-in_err-first-clause-steps c =
    let past = nil_from_length c.args.self.now.left.now c.in_err-first.ensures.cases in
    rw (c.from_residual.ensures, past) (refl, refl)
