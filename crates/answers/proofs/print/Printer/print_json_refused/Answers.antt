-- `answers::print::Printer::print_json_refused` meets its contract. Assumes nothing.
use mathlib.Core.List.{[], ◌∷◌, ◌++◌}
use lib.Chars.{codes}
use Rattle.std.specs.Fmt.{decimal}
use Rattle.std.proofs.KnownBytes.{Appends-trans}
use Rattle.reply.specs.Number.{number_of}
use Rattle.answers.specs.Told.{json_head, json_found, refused_text}
use Rattle.answers.specs.TradeWords.{trade_word}
use Rattle.answers.proofs.Pieces.{on_ok_after}
use Rattle.answers.proofs.Written.{json_refused_parts}
use Rattle.answers.proofs.print.Printer.print_json_refused.Goals as goal

pub returns : goal.returns
unfolding refused_text
returns g c =
    let a = c.args in
    let head = rw c.in_ok-print_json_head.was at c.print_json_head.ensures in
    let number = rw (c.number-number.ensures, c.trade_word-word.ensures) at c.in_ok-write.ensures.bytes in
    let found = rw c.in_ok-print_json_found.was at c.print_json_found.ensures in
    let two = Appends-trans _ _ _ _ _ head number in
    let three = Appends-trans _ _ _ _ _ two found in
    let parts = json_refused_parts (json_head a.file.path.now) (decimal (number_of a.refusal)) (codes ",\"refused\":\"") (trade_word a.refusal) (codes "\",") (json_found a.file.text.now a.spot a.reason.now) (codes "}" ++ (10 ∷ [])) in
    on_ok_after _ _ _ _ _ _ _ parts three c.writeln.ensures.bytes
