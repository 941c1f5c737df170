-- `answers::print::Printer::print_counts` meets its contract. Assumes nothing.
use mathlib.Core.List.{[], ◌∷◌, ◌++◌}
use lib.ListN.{length}
use lib.Chars.{codes}
use Rattle.std.proofs.KnownBytes.{Appends-trans}
use Rattle.answers.specs.Text.{counts_text, number_of_text, states_text}
use Rattle.answers.proofs.Pieces.{nested, on_ok_after}
use Rattle.answers.proofs.print.Printer.print_counts.Goals as goal

pub returns : goal.returns
unfolding counts_text
returns g c =
    let head = c.in_ok-write.ensures.bytes in
    let positions = rw c.in_ok-print_number_of.was at c.print_number_of.ensures in
    let strands = rw c.in_ok-print_number_of-2.was at c.print_number_of-2.ensures in
    let energies = rw c.in_ok-print_number_of-3.was at c.print_number_of-3.ensures in
    let two = Appends-trans _ _ _ (10 ∷ codes "  ") _ head positions in
    let three = Appends-trans _ _ _ _ _ two strands in
    let four = Appends-trans _ _ _ _ _ three energies in
    let d = c.args.design.now in
    let all = nested (10 ∷ codes "  ") (number_of_text (length d.configuration.now) (codes "position, ") (codes "positions, "))
    (number_of_text (length d.strand_names.now) (codes "strand, ") (codes "strands, "))
    (number_of_text d.entries (codes "energy" ++ (10 ∷ [])) (codes "energies" ++ (10 ∷ []))) (states_text d.states) in
    on_ok_after _ _ _ _ _ _ _ all four c.print_states.ensures
