-- `answers::print::Printer::print_stretch` meets its contract. Assumes nothing.
use Rattle.answers.proofs.Written.{grows_on}
use Rattle.answers.proofs.print.Printer.print_stretch.Goals as goal

pub returns-clause-grows : goal.returns-clause-grows
returns-clause-grows g c =
    let range = rw c.in_ok-print_range.was at c.print_range.ensures in
    let strands = rw c.in_ok-print_line.was at c.print_line.ensures in
    let scaffold = rw c.in_ok-print_line-2.was at c.print_line-2.ensures in
    grows_on _ _ _ (grows_on _ _ _ range strands) scaffold
