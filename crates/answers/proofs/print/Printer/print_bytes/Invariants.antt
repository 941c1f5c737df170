-- `answers::print::Printer::print_bytes` meets its contract: what is written, and the text of what is left, are the whole. Assumes nothing.
use mathlib.Core.Path.{◌≡◌}
use mathlib.Core.List.{List, ◌++◌}
use Prim.Native.Nat.{ℕ}
use lib.ListN.{length}
use Rattle.std.specs.Io.KnownBytes.{Appends}
use Rattle.answers.proofs.Runs.{bytes_text}
use Rattle.answers.proofs.print.Printer.print_bytes.Given as goal

abbrev pub invariant-loop-run : goal.invariant-loop-run
invariant-loop-run g l =
    (xs : List ℕ) × Appends (g.W.Write.contents l.fn.self.out.now) (g.W.Write.contents l.self.out.now) xs
    × (xs ++ bytes_text l.style l.as_text l.rest ≡ bytes_text l.style l.as_text l.bytes)

abbrev pub decreases-loop-run : goal.decreases-loop-run
decreases-loop-run g l = length l.rest
