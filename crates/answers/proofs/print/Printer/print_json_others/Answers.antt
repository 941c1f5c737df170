use Rattle.answers.proofs.Written.{grows_on}
use Rattle.answers.proofs.print.Printer.print_json_others.Goals as goal

pub loop-i-preserved : goal.loop-i-preserved
loop-i-preserved g c = grows_on _ _ _ c.loop-i.invariant (rw c.in_ok-print_json_other.was at c.print_json_other.ensures)
