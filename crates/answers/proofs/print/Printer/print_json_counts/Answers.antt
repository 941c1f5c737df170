-- `answers::print::Printer::print_json_counts` meets its contract. Assumes nothing.
use lib.ListN.{length}
use lib.Chars.{codes}
use Rattle.std.specs.Fmt.{decimal}
use Rattle.answers.specs.Text.{count_text}
use Rattle.answers.proofs.Pieces.{joined, on_ok_after}
use Rattle.answers.proofs.print.Printer.print_json_counts.Goals as goal

pub returns : goal.returns
returns g c =
    let d = c.args.design.now in
    let all = joined (codes "0,\"positions\":") (decimal (length d.configuration.now)) (codes ",\"strands\":") (decimal (length d.strand_names.now))
    (codes ",\"energies\":") (decimal d.entries) (codes ",\"states\":") (count_text d.states) in
    on_ok_after _ _ _ _ _ _ _ all c.in_ok-write.ensures.bytes (rw c.states_of.ensures at c.print_count_or_null.ensures)
