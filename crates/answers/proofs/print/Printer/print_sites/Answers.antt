use mathlib.Core.Path.{refl, subst}
use mathlib.Core.List.{[]}
use Rattle.std.specs.Io.KnownBytes.{Appends}
use Rattle.std.proofs.KnownBytes.{Appends-trans, Appends-nil}
use Rattle.answers.specs.Table.{site_piece, sites_text}
use Rattle.answers.proofs.Pieces.{piece_more, piece_past}
use Rattle.answers.proofs.print.Printer.print_sites.Goals as goal

pub loop-i-init : goal.loop-i-init
loop-i-init g c = ([], Appends-nil _, refl)

pub loop-i-preserved : goal.loop-i-preserved
loop-i-preserved g c =
    let inv = c.loop-i.invariant in
    let xs = inv.0 in
    let more = rw c.in_ok-print_site.was at c.print_site.ensures in
    (_, Appends-trans _ _ _ xs _ inv.1 more, piece_more site_piece c.args.configuration.now c.loop-i.i _ c.loop-i-test.true xs _ inv.2)

pub returns : goal.returns
unfolding sites_text
returns g c =
    let inv = c.loop-i.invariant in
    let all = piece_past site_piece c.args.configuration.now c.loop-i.i c.loop-i-test.false inv.0 _ inv.2 in
    subst (Appends _ _) all inv.1
