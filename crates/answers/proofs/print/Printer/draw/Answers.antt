use Rattle.answers.proofs.Written.{grows_on}
use Rattle.answers.proofs.print.Printer.draw.Goals as goal

pub loop-from-preserved : goal.loop-from-preserved
loop-from-preserved g c = grows_on _ _ _ c.loop-from.invariant (rw c.in_ok-from.was at c.print_stretch.ensures.grows)
