-- `answers::print::Printer::settled` meets its contract. Assumes nothing.
use Rattle.answers.proofs.print.Printer.settled.Goals as goal

pub returns-in-People : goal.returns-in-People
returns-in-People g c = rw c.in-People.is c.print_settled.ensures

pub returns-in-Json : goal.returns-in-Json
returns-in-Json g c = rw c.in-Json.is c.print_json_settled.ensures
