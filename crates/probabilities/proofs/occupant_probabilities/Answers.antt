-- The reply is that of the checks, and only an admitted call writes. Assumes nothing.
use Rattle.std.proofs.lemmas.Result.{err_from_is_err_and}
use Rattle.probabilities.proofs.Here.{occupants-told}
use Rattle.probabilities.proofs.occupant_probabilities.Goals as goal

pub returns-in_err-admitted-clause-value : goal.returns-in_err-admitted-clause-value
returns-in_err-admitted-clause-value c =
    let a = c.args in
    let p = err_from_is_err_and c.from_residual.result c.from_residual.ensures.1 in
    rw (p.1, p.2) (occupants-told a.design.now a.digits.now a.powers.now c.wrong_entries-own_size.ensures c.in_err-admitted.ensures.value)
