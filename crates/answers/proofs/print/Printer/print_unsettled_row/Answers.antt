-- `answers::print::Printer::print_unsettled_row` meets its contract. Assumes nothing.
use mathlib.Core.List.{[], ◌∷◌, ◌++◌}
use Rattle.std.proofs.KnownBytes.{Appends-trans}
use Rattle.answers.specs.Shown.{shown_bytes}
use Rattle.answers.specs.Table.{number_field, word_field, unsettled_row}
use Rattle.answers.specs.declared.print.Style.TheVariants.{Tsv}
use Rattle.answers.proofs.Pieces.{on_ok_after}
use Rattle.answers.proofs.Written.{eight}
use Rattle.answers.proofs.print.Printer.print_unsettled_row.Goals as goal

pub returns : goal.returns
unfolding unsettled_row
returns g c =
    let a = c.args in
    let path = rw c.in_ok-print_bytes.was at c.print_bytes.ensures in
    let reply = rw c.in_ok-print_number_field.was at c.print_number_field.ensures in
    let line = rw c.in_ok-print_number_field-2.was at c.print_number_field-2.ensures in
    let word = rw c.in_ok-print_word_field.was at c.print_word_field.ensures in
    let two = Appends-trans _ _ _ _ _ path c.in_ok-write.ensures.bytes in
    let three = Appends-trans _ _ _ _ _ two reply in
    let four = Appends-trans _ _ _ _ _ three c.in_ok-write-2.ensures.bytes in
    let five = Appends-trans _ _ _ _ _ four line in
    let six = Appends-trans _ _ _ _ _ five c.in_ok-write-3.ensures.bytes in
    let seven = Appends-trans _ _ _ _ _ six word in
    let parts = eight (shown_bytes Tsv a.file.path.now) (9 ∷ []) (number_field a.reply) (9 ∷ 9 ∷ 9 ∷ 9 ∷ 9 ∷ []) (number_field a.spot.line) (9 ∷ [])
    (word_field a.file.text.now a.spot.word) (9 ∷ (a.reason.now ++ (10 ∷ []))) in
    on_ok_after _ _ _ _ _ _ _ parts seven c.writeln.ensures.bytes
