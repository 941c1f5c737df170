use mathlib.Core.Path.{ap}
use mathlib.Core.List.{List, ◌++◌, append_assoc}
use Prim.Native.Nat.{ℕ}
use lib.Chars.{codes}
use Rattle.std.proofs.KnownBytes.{Appends-trans}
use Rattle.answers.specs.Text.{word_piece, words_text}
use Rattle.answers.proofs.Pieces.{piece_more, piece_past, on_ok_after}
use Rattle.answers.proofs.print.Printer.print_words.Goals as goal

pub loop-i-preserved : goal.loop-i-preserved
loop-i-preserved g c =
    let inv = c.loop-i.invariant in
    let xs = inv.0 in
    let more = rw c.in_ok-print_word_in.was at c.print_word_in.ensures in
    let both = Appends-trans _ _ _ (codes ",\"deck\":[" ++ xs) _ inv.1 more in
    (_, rw (append_assoc (codes ",\"deck\":[") xs _) at both, piece_more word_piece c.args.words.now c.loop-i.i _ c.loop-i-test.true xs _ inv.2)

pub returns : goal.returns
unfolding words_text
returns g c =
    let inv = c.loop-i.invariant in
    let all = piece_past word_piece c.args.words.now c.loop-i.i c.loop-i-test.false inv.0 _ inv.2 in
    on_ok_after _ _ _ (codes ",\"deck\":[" ++ inv.0) _ _ _ (ap (λ (xs : List ℕ). codes ",\"deck\":[" ++ (xs ++ codes "]")) all) inv.1 c.write-2.ensures.bytes
