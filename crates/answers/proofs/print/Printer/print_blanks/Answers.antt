use Rattle.answers.proofs.Written.{grows_by}
use Rattle.answers.proofs.print.Printer.print_blanks.Goals as goal

pub loop-preserved : goal.loop-preserved
loop-preserved g c = grows_by _ _ _ _ c.loop.invariant c.in_ok-write.ensures.bytes
