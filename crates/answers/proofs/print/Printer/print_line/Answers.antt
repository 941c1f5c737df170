use Rattle.answers.proofs.Written.{grows_on, grows_by, on_ok_by}
use Rattle.answers.proofs.print.Printer.print_line.Goals as goal

pub loop-i-preserved : goal.loop-i-preserved
loop-i-preserved g c =
    let word = grows_by _ _ _ _ c.loop-i.invariant (rw c.in_ok-print_bytes.was at c.print_bytes.ensures) in
    grows_on _ _ _ word (rw c.in_ok-print_blanks.was at c.print_blanks.ensures)

pub returns : goal.returns
returns g c = on_ok_by _ _ _ _ _ c.loop-i.invariant c.writeln.ensures.bytes
