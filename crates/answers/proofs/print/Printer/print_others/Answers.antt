use Rattle.answers.proofs.Written.{grows_on}
use Rattle.answers.proofs.print.Printer.print_others.Goals as goal

pub loop-other-preserved : goal.loop-other-preserved
loop-other-preserved g c = grows_on _ _ _ c.loop-other.invariant (rw c.in_ok-print_other.was at c.print_other.ensures)
