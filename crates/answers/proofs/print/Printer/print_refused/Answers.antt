-- `answers::print::Printer::print_refused` meets its contract. Assumes nothing.
use mathlib.Core.List.{◌∷◌}
use lib.Chars.{codes}
use Rattle.std.specs.Fmt.{decimal}
use Rattle.std.proofs.KnownBytes.{Appends-trans}
use Rattle.reply.specs.Number.{number_of}
use Rattle.answers.specs.Shown.{shown_bytes}
use Rattle.answers.specs.Told.{found_text, refused_text}
use Rattle.answers.specs.TradeWords.{trade_word}
use Rattle.answers.specs.declared.print.Style.TheVariants.{People}
use Rattle.answers.proofs.Pieces.{on_ok_after}
use Rattle.answers.proofs.Written.{refused_parts}
use Rattle.answers.proofs.print.Printer.print_refused.Goals as goal

pub returns : goal.returns
unfolding refused_text
returns g c =
    let a = c.args in
    let path = rw c.in_ok-print_bytes.was at c.print_bytes.ensures in
    let number = rw (c.number-number.ensures, c.trade_word-word.ensures) at c.in_ok-write.ensures.bytes in
    let parts = refused_parts (shown_bytes People a.file.path.now) (10 ∷ codes "  refused ") (decimal (number_of a.refusal)) (codes " (") (trade_word a.refusal) (codes ")") (found_text a.file.text.now a.spot a.reason.now) in
    on_ok_after _ _ _ _ _ _ _ parts (Appends-trans _ _ _ _ _ path number) c.print_found.ensures
