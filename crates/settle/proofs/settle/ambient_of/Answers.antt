-- `settle::settle::ambient_of` meets its contract. Assumes nothing.
use Rattle.settle.specs.Files.{ambient_told}
use Rattle.settle.proofs.Refusing.{no_answer}
use Rattle.settle.proofs.settle.ambient_of.Goals as goal

pub returns-in-Ok-clause-goes_on : goal.returns-in-Ok-clause-goes_on
unfolding ambient_told
returns-in-Ok-clause-goes_on c after = let e = rw c.in-Ok.is at c.ambient.ensures in rw (← e)

pub returns-in-Err-clause-ends : goal.returns-in-Err-clause-ends
unfolding ambient_told
returns-in-Err-clause-ends c after =
    let e = c.in-Err.ensures in
    rw (← e, c.refused.ensures.0, c.refused.ensures.1, c.kelvin_found.ensures) (simp (no_answer c.in-Err.refusal))
