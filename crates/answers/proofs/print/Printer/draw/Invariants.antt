-- `answers::print::Printer::draw` meets its contract. The measure is how many positions are left; what was there stays, and more stands behind it. Assumes nothing.
use Rattle.std.proofs.Common.{length, ◌-◌}
use Rattle.answers.specs.Text.{Grows}
use Rattle.answers.proofs.print.Printer.draw.Given as goal

abbrev pub decreases-loop-from : goal.decreases-loop-from
decreases-loop-from g l = length l.design.configuration.now - l.from

abbrev pub invariant-loop-from : goal.invariant-loop-from
invariant-loop-from g l = Grows (g.W.Write.contents l.fn.self.out.now) (g.W.Write.contents l.self.out.now)
