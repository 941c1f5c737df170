-- `settle::settle::concentrations` meets its contract. Assumes nothing.
use Rattle.settle.specs.Files.{dilute_told}
use Rattle.settle.proofs.settle.concentrations.Goals as goal

pub returns-in-None-clause-goes_on : goal.returns-in-None-clause-goes_on
unfolding dilute_told
returns-in-None-clause-goes_on c after = let e = rw c.in-None.is at c.first_dilute.ensures in rw (← e)

pub returns-in-Some-clause-ends : goal.returns-in-Some-clause-ends
unfolding dilute_told
returns-in-Some-clause-ends c after =
    let e = rw c.in-Some.is at c.first_dilute.ensures in
    rw (← e, c.refused.ensures.0, c.refused.ensures.1, c.amount_found-found.ensures, c.from.ensures)
