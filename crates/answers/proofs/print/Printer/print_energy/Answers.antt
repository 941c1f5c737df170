-- `answers::print::Printer::print_energy` meets its contract. Assumes nothing.
use mathlib.Core.Path.{refl}
use lib.Chars.{codes}
use Rattle.std.proofs.KnownBytes.{Appends-trans}
use Rattle.answers.specs.Text.{energy_text}
use Rattle.answers.proofs.Pieces.{on_ok_after}
use Rattle.answers.proofs.print.Printer.print_energy.Goals as goal

pub returns : goal.returns
unfolding energy_text
returns g c =
    let head = c.in_ok-write.ensures.bytes in
    let fixed = rw c.in_ok-print_fixed.was at c.print_fixed.ensures in
    let both = Appends-trans _ _ _ (codes "  energy ") _ head fixed in
    on_ok_after _ _ _ _ _ _ _ refl both c.print_unit.ensures
