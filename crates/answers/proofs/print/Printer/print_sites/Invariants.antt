-- `answers::print::Printer::print_sites` meets its contract: what is written, and the pieces that are left, are the whole. Assumes nothing.
use mathlib.Core.Path.{◌≡◌}
use mathlib.Core.List.{List, ◌++◌}
use Prim.Native.Nat.{ℕ}
use lib.ListN.{drop}
use Rattle.std.specs.Io.KnownBytes.{Appends}
use Rattle.answers.specs.Table.{site_piece}
use Rattle.answers.specs.Text.{pieces}
use Rattle.answers.proofs.print.Printer.print_sites.Given as goal

abbrev pub invariant-loop-i : goal.invariant-loop-i
invariant-loop-i g l =
    (xs : List ℕ) × Appends (g.W.Write.contents l.fn.self.out.now) (g.W.Write.contents l.self.out.now) xs
    × (xs ++ pieces site_piece l.i (drop l.i l.configuration) ≡ pieces site_piece 0 l.configuration)
