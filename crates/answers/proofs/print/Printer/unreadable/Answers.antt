-- `answers::print::Printer::unreadable` meets its contract. Assumes nothing.
use Rattle.answers.specs.Told.{unreadable_text}
use Rattle.answers.specs.declared.print.Style.TheVariants.{People, Json, Tsv}
use Rattle.answers.proofs.Written.{on_ok_told, on_ok_alone}
use Rattle.answers.proofs.print.Printer.unreadable.Goals as goal

pub returns-in-People : goal.returns-in-People
returns-in-People g c = rw c.in-People.is (on_ok_told _ _ (unreadable_text People c.args.file.path.now c.args.file.text.now c.args.found.spot) c.reason-reason.result.now _ c.print_unreadable.ensures)

pub returns-in-Json : goal.returns-in-Json
returns-in-Json g c = rw c.in-Json.is (on_ok_told _ _ (unreadable_text Json c.args.file.path.now c.args.file.text.now c.args.found.spot) c.reason-reason.result.now _ c.print_json_unreadable.ensures)

pub returns-in-Tsv : goal.returns-in-Tsv
unfolding unreadable_text
returns-in-Tsv g c = rw c.in-Tsv.is (on_ok_alone _ _ (unreadable_text Tsv c.args.file.path.now c.args.file.text.now c.args.found.spot) c.reason-reason.result.now _ c.print_unsettled_row.ensures)
