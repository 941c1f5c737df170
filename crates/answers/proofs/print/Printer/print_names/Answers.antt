use mathlib.Core.Path.{ap}
use mathlib.Core.List.{List, ◌++◌, append_assoc}
use Prim.Native.Nat.{ℕ}
use lib.Chars.{codes}
use Rattle.std.proofs.KnownBytes.{Appends-trans}
use Rattle.answers.specs.Told.{name_piece, names_text}
use Rattle.answers.proofs.Pieces.{piece_more, piece_past, on_ok_after}
use Rattle.answers.proofs.print.Printer.print_names.Goals as goal

pub loop-i-preserved : goal.loop-i-preserved
loop-i-preserved g c =
    let inv = c.loop-i.invariant in
    let xs = inv.0 in
    let more = rw c.in_ok-print_name_in.was at c.print_name_in.ensures in
    let both = Appends-trans _ _ _ (codes ",\"names\":[" ++ xs) _ inv.1 more in
    (_, rw (append_assoc (codes ",\"names\":[") xs _) at both, piece_more (name_piece c.args.design.now) c.args.design.now.configuration.now c.loop-i.i _ c.loop-i-test.true xs _ inv.2)

pub returns : goal.returns
unfolding names_text
returns g c =
    let inv = c.loop-i.invariant in
    let all = piece_past (name_piece c.args.design.now) c.args.design.now.configuration.now c.loop-i.i c.loop-i-test.false inv.0 _ inv.2 in
    on_ok_after _ _ _ (codes ",\"names\":[" ++ inv.0) _ _ _ (ap (λ (xs : List ℕ). codes ",\"names\":[" ++ (xs ++ codes "]")) all) inv.1 c.write-2.ensures.bytes
