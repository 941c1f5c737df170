-- `settle::settle::settle_lines` meets its contract. Assumes nothing.
use mathlib.Core.Path.{◌≡◌, sym, ap, ◌∙◌}
use mathlib.Core.List.{List}
use lib.ListN.{length, replicate, length-replicate}
use Rattle.statements.specs.declared.statement.Row.{Row}
use Rattle.settle.specs.Files.{rows_told}
use Rattle.settle.proofs.Said.{rows_read, told_rows, told_fault}
use Rattle.settle.proofs.settle.settle_lines.Goals as goal

pub returns-in-Ok-clause-told : goal.returns-in-Ok-clause-told
returns-in-Ok-clause-told c =
    let text = c.args.text.now in
    let room : List Row = replicate 2048 c.blank-room.result in
    let long : length room ≡ 2048 = length-replicate 2048 c.blank-room.result in
    let answer = sym c.read.ensures.value ∙ c.in-Ok.is in
    let rows = c.first.ensures ∙ rows_read text room c.read.new.rows c.in-Ok.count answer c.read.ensures.rows_after in
    c.settle_rows.ensures.told ∙ ap (rows_told c.args.which text) rows ∙ sym (told_rows c.args.which text (length room) long answer)

pub returns-in-Err-clause-told : goal.returns-in-Err-clause-told
returns-in-Err-clause-told c =
    let room : List Row = replicate 2048 c.blank-room.result in
    let long : length room ≡ 2048 = length-replicate 2048 c.blank-room.result in
    let answer = sym c.read.ensures.value ∙ c.in-Err.is in
    c.of_lines.ensures ∙ sym (told_fault c.args.which c.args.text.now (length room) long answer)

pub returns-in-Ok-clause-lowest : goal.returns-in-Ok-clause-lowest
returns-in-Ok-clause-lowest c =
    let text = c.args.text.now in
    let room : List Row = replicate 2048 c.blank-room.result in
    let answer = sym c.read.ensures.value ∙ c.in-Ok.is in
    let rows = c.first.ensures ∙ rows_read text room c.read.new.rows c.in-Ok.count answer c.read.ensures.rows_after in
    rw rows at c.settle_rows.ensures.lowest
