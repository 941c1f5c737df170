-- `answers::print::Printer::print_numbers` meets its contract: what is written, and the pieces that are left, are the whole. Assumes nothing.
use mathlib.Core.Path.{◌≡◌}
use mathlib.Core.List.{List, ◌++◌}
use Prim.Native.Nat.{ℕ}
use lib.ListN.{drop}
use lib.Chars.{codes}
use Rattle.std.specs.Io.KnownBytes.{Appends}
use Rattle.answers.specs.Text.{pieces, number_piece}
use Rattle.answers.proofs.print.Printer.print_numbers.Given as goal

abbrev pub invariant-loop-i : goal.invariant-loop-i
invariant-loop-i g l =
    (xs : List ℕ) × Appends (g.W.Write.contents l.fn.self.out.now) (g.W.Write.contents l.self.out.now) ((codes ",\"" ++ (l.name ++ codes "\":[")) ++ xs)
    × (xs ++ pieces number_piece l.i (drop l.i l.numbers) ≡ pieces number_piece 0 l.numbers)
