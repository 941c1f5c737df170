-- `answers::print::Printer::print_other` meets its contract. Assumes nothing.
use Rattle.answers.proofs.Written.{grows_by, on_ok_by}
use Rattle.answers.proofs.print.Printer.print_other.Goals as goal

pub returns : goal.returns
returns g c =
    let at = rw c.in_ok-print_at.was at c.print_at.ensures in
    on_ok_by _ _ _ _ _ (grows_by _ _ _ _ (_, c.in_ok-write.ensures.bytes) at) c.writeln.ensures.bytes
