-- `answers::print::Printer::print_word` meets its contract. Assumes nothing.
use mathlib.Core.Path.{◌≡◌, refl, sym}
use mathlib.Core.Bool.{false}
use mathlib.Core.List.{◌++◌}
use borrow.Author.Tests.{lt-leb}
use lib.Chars.{codes}
use lib.Dec.{leb}
use lib.ListN.{length}
use Rattle.answers.specs.Shown.{shown_bytes, word_text}
use Rattle.answers.proofs.Pieces.{on_ok_after}
use Rattle.answers.proofs.print.Printer.print_word.Goals as goal

pub returns : goal.returns
unfolding word_text
returns g c =
    let shown = rw c.in_ok-print_bytes.was at c.print_bytes-2.ensures in
    let long : leb (length c.args.word.now) 64 ≡ false = lt-leb (length c.args.word.now) 64 c.if-word-le64.false in
    let text : word_text c.args.style c.args.word.now ≡ shown_bytes c.args.style c.first.result.now ++ codes "..." = rw (c.first.ensures, c.cut.ensures, long) refl in
    on_ok_after _ _ _ _ _ _ _ (sym text) shown c.write.ensures.bytes
