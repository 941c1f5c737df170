-- `answers::print::Printer::print_json_other` meets its contract. Assumes nothing.
use Rattle.answers.proofs.Written.{grows_by, on_ok_by}
use Rattle.answers.proofs.print.Printer.print_json_other.Goals as goal

pub returns : goal.returns
returns g c =
    let found = rw c.in_ok-print_json_found.was at c.print_json_found.ensures in
    on_ok_by _ _ _ _ _ (grows_by _ _ _ _ (_, c.in_ok-write.ensures.bytes) found) c.write-2.ensures.bytes
