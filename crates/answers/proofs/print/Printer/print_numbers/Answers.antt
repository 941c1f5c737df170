use mathlib.Core.Path.{refl}
use mathlib.Core.List.{[], ◌++◌, append-nil}
use lib.Chars.{codes}
use Rattle.answers.specs.Text.{number_piece, numbers_text}
use Rattle.answers.proofs.Pieces.{piece_more, piece_past, on_ok_after, wrapped, appends_more}
use Rattle.answers.proofs.print.Printer.print_numbers.Goals as goal

pub loop-i-init : goal.loop-i-init
loop-i-init g c =
    let head = c.args.name.now ++ codes "\":[" in
    ([], rw (append-nil head) c.in_ok-write.ensures.bytes, refl)

pub loop-i-preserved : goal.loop-i-preserved
loop-i-preserved g c =
    let inv = c.loop-i.invariant in
    let more = rw c.in_ok-print_number.was at c.print_number.ensures in
    let head = codes ",\"" ++ (c.args.name.now ++ codes "\":[") in
    (_, appends_more _ _ _ head inv.0 _ inv.1 more, piece_more number_piece c.args.numbers.now c.loop-i.i _ c.loop-i-test.true inv.0 _ inv.2)

pub returns : goal.returns
unfolding numbers_text
returns g c =
    let inv = c.loop-i.invariant in
    let all = piece_past number_piece c.args.numbers.now c.loop-i.i c.loop-i-test.false inv.0 _ inv.2 in
    on_ok_after _ _ _ _ _ _ _ (wrapped (codes ",\"") c.args.name.now (codes "\":[") (codes "]") all) inv.1 c.write-2.ensures.bytes
