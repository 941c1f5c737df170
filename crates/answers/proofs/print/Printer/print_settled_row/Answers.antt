-- `answers::print::Printer::print_settled_row` meets its contract. Assumes nothing.
use mathlib.Core.List.{[], ◌∷◌}
use Rattle.std.proofs.KnownBytes.{Appends-trans}
use Rattle.answers.specs.Shown.{shown_bytes}
use Rattle.answers.specs.Text.{fixed_shown}
use Rattle.answers.specs.Table.{number_field, bits_field, sites_text, settled_row}
use Rattle.answers.specs.declared.print.Style.TheVariants.{Tsv}
use Rattle.answers.proofs.Pieces.{on_ok_after}
use Rattle.answers.proofs.Written.{eight}
use Rattle.answers.proofs.print.Printer.print_settled_row.Goals as goal

pub returns : goal.returns
unfolding settled_row
returns g c =
    let d = c.args.design.now in
    let path = rw c.in_ok-print_bytes.was at c.print_bytes.ensures in
    let energy = rw c.in_ok-print_fixed.was at c.print_fixed.ensures in
    let bits = rw c.in_ok-print_bits_field.was at c.print_bits_field.ensures in
    let states = rw (c.in_ok-print_number_field.was, c.states_of.ensures) at c.print_number_field.ensures in
    let sites = rw c.in_ok-print_sites.was at c.print_sites.ensures in
    let two = Appends-trans _ _ _ _ _ path c.in_ok-write.ensures.bytes in
    let three = Appends-trans _ _ _ _ _ two energy in
    let four = Appends-trans _ _ _ _ _ three bits in
    let five = Appends-trans _ _ _ _ _ four states in
    let six = Appends-trans _ _ _ _ _ five c.in_ok-write-2.ensures.bytes in
    let seven = Appends-trans _ _ _ _ _ six sites in
    let parts = eight (shown_bytes Tsv c.args.path.now) (9 ∷ 48 ∷ 9 ∷ []) (fixed_shown d.energy) (bits_field d.energy)
    (number_field d.states) (9 ∷ []) (sites_text d.configuration.now) (9 ∷ 9 ∷ 9 ∷ 10 ∷ []) in
    on_ok_after _ _ _ _ _ _ _ parts seven c.writeln.ensures.bytes
