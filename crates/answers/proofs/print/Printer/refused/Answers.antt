-- `answers::print::Printer::refused` meets its contract. Assumes nothing.
use mathlib.Core.List.{List}
use Prim.Native.Nat.{ℕ}
use Rattle.std.specs.Prelude.{Some}
use Rattle.std.specs.Io.KnownBytes.{Appends}
use Rattle.reply.specs.Number.{number_of}
use Rattle.answers.specs.Table.{unsettled_row}
use Rattle.answers.specs.Told.{refused_text}
use Rattle.answers.proofs.Written.{on_ok_with}
use Rattle.answers.proofs.print.Printer.refused.Goals as goal

pub returns-in-People : goal.returns-in-People
returns-in-People g c = rw c.in-People.is (on_ok_with _ c.reason-reason.result.now _ c.print_refused.ensures)

pub returns-in-Json : goal.returns-in-Json
returns-in-Json g c = rw c.in-Json.is (on_ok_with _ c.reason-reason.result.now _ c.print_json_refused.ensures)

pub returns-in-Tsv : goal.returns-in-Tsv
unfolding refused_text
returns-in-Tsv g c =
    let a = c.args in
    let row = rw c.number-number.ensures at c.print_unsettled_row.ensures in
    rw c.in-Tsv.is (on_ok_with (λ (reason : List ℕ). Appends _ _ (unsettled_row a.file.path.now a.file.text.now (Some (number_of a.refusal)) a.found.spot reason)) c.reason-reason.result.now _ row)
