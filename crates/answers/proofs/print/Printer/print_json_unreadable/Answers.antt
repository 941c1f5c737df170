-- `answers::print::Printer::print_json_unreadable` meets its contract. Assumes nothing.
use mathlib.Core.List.{[], ◌∷◌, ◌++◌}
use lib.Chars.{codes}
use Rattle.std.proofs.KnownBytes.{Appends-trans}
use Rattle.answers.specs.Told.{json_head, json_found, unreadable_text}
use Rattle.answers.specs.declared.print.Style.TheVariants.{Json}
use Rattle.answers.proofs.Written.{on_ok_closed, six}
use Rattle.answers.proofs.print.Printer.print_json_unreadable.Goals as goal

pub returns : goal.returns
unfolding unreadable_text
returns g c =
    let a = c.args in
    let head = rw c.in_ok-print_json_head.was at c.print_json_head.ensures in
    let found = rw c.in_ok-print_json_found.was at c.print_json_found.ensures in
    let others = rw c.in_ok-print_json_others.was at c.print_json_others.ensures in
    let two = Appends-trans _ _ _ _ _ head c.in_ok-write.ensures.bytes in
    let three = Appends-trans _ _ _ _ _ two found in
    let four = Appends-trans _ _ _ _ _ three c.in_ok-write-2.ensures.bytes in
    let five = Appends-trans _ _ _ _ _ four others.1 in
    let parts = six (json_head a.file.path.now) (codes "null,") (json_found a.file.text.now a.spot a.reason.now) (codes ",\"others\":[") others.0 (codes "]}" ++ (10 ∷ [])) in
    on_ok_closed _ _ _ _ _ others.0 (unreadable_text Json a.file.path.now a.file.text.now a.spot a.reason.now) _ parts five c.writeln.ensures.bytes
