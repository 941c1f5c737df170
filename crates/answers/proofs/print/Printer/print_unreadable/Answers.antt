-- `answers::print::Printer::print_unreadable` meets its contract. Assumes nothing.
use Rattle.std.proofs.KnownBytes.{Appends-trans}
use mathlib.Core.List.{◌∷◌}
use lib.Chars.{codes}
use Rattle.answers.specs.Shown.{shown_bytes}
use Rattle.answers.specs.Told.{found_text, unreadable_text}
use Rattle.answers.specs.declared.print.Style.TheVariants.{People}
use Rattle.answers.proofs.Written.{on_ok_open, unreadable_parts}
use Rattle.answers.proofs.print.Printer.print_unreadable.Goals as goal

pub returns : goal.returns
unfolding unreadable_text
returns g c =
    let a = c.args in
    let path = rw c.in_ok-print_bytes.was at c.print_bytes.ensures in
    let found = rw c.in_ok-print_found.was at c.print_found.ensures in
    let three = Appends-trans _ _ _ _ _ (Appends-trans _ _ _ _ _ path c.in_ok-write.ensures.bytes) found in
    on_ok_open _ _ _ _ (unreadable_text People a.file.path.now a.file.text.now a.spot a.reason.now) _
    (unreadable_parts (shown_bytes People a.file.path.now) (10 ∷ codes "  unreadable") (found_text a.file.text.now a.spot a.reason.now)) three c.print_others.ensures
