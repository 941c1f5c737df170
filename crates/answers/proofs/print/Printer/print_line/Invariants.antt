-- `answers::print::Printer::print_line` meets its contract: what was there stays, and more stands behind it. Assumes nothing.
use Rattle.answers.specs.Text.{Grows}
use Rattle.answers.proofs.print.Printer.print_line.Given as goal

abbrev pub invariant-loop-i : goal.invariant-loop-i
invariant-loop-i g l = Grows (g.W.Write.contents l.fn.self.out.now) (g.W.Write.contents l.self.out.now)
