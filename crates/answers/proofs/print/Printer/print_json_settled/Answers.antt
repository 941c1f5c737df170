-- `answers::print::Printer::print_json_settled` meets its contract. Assumes nothing.
use mathlib.Core.List.{[], ◌∷◌, ◌++◌}
use lib.Chars.{codes}
use lib.ListN.{length}
use Rattle.std.proofs.KnownBytes.{Appends-trans}
use Rattle.answers.specs.Text.{json_counts_text, json_ring_text, numbers_text, json_energy_text, words_text}
use Rattle.answers.specs.Told.{json_head, names_text, json_settled}
use Rattle.answers.proofs.Pieces.{on_ok_after}
use Rattle.answers.proofs.Written.{nine}
use Rattle.answers.proofs.print.Printer.print_json_settled.Goals as goal

pub returns : goal.returns
unfolding json_settled
returns g c =
    let d = c.args.design.now in
    let head = rw c.in_ok-print_json_head.was at c.print_json_head.ensures in
    let counts = rw c.in_ok-print_json_counts.was at c.print_json_counts.ensures in
    let ring = rw c.in_ok-print_json_ring.was at c.print_json_ring.ensures in
    let configuration = rw c.in_ok-print_numbers.was at c.print_numbers.ensures in
    let blocked = rw c.in_ok-print_numbers-2.was at c.print_numbers-2.ensures in
    let names = rw c.in_ok-print_names.was at c.print_names.ensures in
    let energy = rw c.in_ok-print_json_energy.was at c.print_json_energy.ensures in
    let words = rw c.in_ok-print_words.was at c.print_words.ensures in
    let two = Appends-trans _ _ _ _ _ head counts in
    let three = Appends-trans _ _ _ _ _ two ring in
    let four = Appends-trans _ _ _ _ _ three configuration in
    let five = Appends-trans _ _ _ _ _ four blocked in
    let six = Appends-trans _ _ _ _ _ five names in
    let seven = Appends-trans _ _ _ _ _ six energy in
    let eight = Appends-trans _ _ _ _ _ seven words in
    let parts = nine (json_head c.args.path.now) (json_counts_text (length d.configuration.now) (length d.strand_names.now) d.entries d.states) (json_ring_text d.ring)
    (numbers_text (codes "configuration") d.configuration.now) (numbers_text (codes "blocked") d.marks.now) (names_text d) (json_energy_text d.energy) (words_text d.deck.now) (codes "}" ++ (10 ∷ [])) in
    on_ok_after _ _ _ _ _ _ _ parts eight c.writeln.ensures.bytes
