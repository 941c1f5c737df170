-- `settle::settle::build` meets its contract. Assumes nothing.
use Rattle.settle.specs.Files.{build_reply, built_said, build_told}
use Rattle.settle.proofs.settle.build.Goals as goal

pub returns-in-Ok-clause-built : goal.returns-in-Ok-clause-built
unfolding built_said
returns-in-Ok-clause-built c = rw (c.in-Ok.is, c.requires.lent) at c.build.ensures.written

pub returns-in-Ok-clause-goes_on : goal.returns-in-Ok-clause-goes_on
unfolding build_told build_reply
returns-in-Ok-clause-goes_on c after =
    let reply = rw (c.in-Ok.is, c.requires.lent) at c.build.ensures.reply in
    rw (← reply)

pub returns-in-Err-clause-ends : goal.returns-in-Err-clause-ends
unfolding build_told build_reply
returns-in-Err-clause-ends c after =
    let reply = rw (c.in-Err.is, c.requires.lent) at c.build.ensures.reply in
    rw (← reply, c.refused.ensures.0, c.refused.ensures.1, c.build_found.ensures)
