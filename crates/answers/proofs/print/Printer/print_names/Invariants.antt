-- `answers::print::Printer::print_names` meets its contract: what is written, and the pieces that are left, are the whole. Assumes nothing.
use mathlib.Core.Path.{◌≡◌}
use mathlib.Core.List.{List, ◌++◌}
use Prim.Native.Nat.{ℕ}
use lib.ListN.{drop}
use lib.Chars.{codes}
use Rattle.std.specs.Io.KnownBytes.{Appends}
use Rattle.answers.specs.Text.{pieces}
use Rattle.answers.specs.Told.{name_piece}
use Rattle.answers.proofs.print.Printer.print_names.Given as goal

abbrev pub invariant-loop-i : goal.invariant-loop-i
invariant-loop-i g l =
    (xs : List ℕ) × Appends (g.W.Write.contents l.fn.self.out.now) (g.W.Write.contents l.self.out.now) (codes ",\"names\":[" ++ xs)
    × (xs ++ pieces (name_piece l.design) l.i (drop l.i l.design.configuration.now) ≡ pieces (name_piece l.design) 0 l.design.configuration.now)
