-- The invariant: the rows before this one are filled. Assumes nothing.
use Prim.Native.Nat.{ℕ}
use lib.ListN.{length}
use lib.Ieee.{Float, nan}
use Rattle.lists.specs.Grid.{Grid}
use Rattle.design.specs.Filling.{Gives}
use Rattle.design.proofs.tables.fill_rows.Given as goal

abbrev pub invariant-loop-row : goal.invariant-loop-row
invariant-loop-row g l = (f : ℕ → ℕ → Float) → Gives (goal.F-post g l.bond) f → Grid f nan l.strands (length l.fn.cells) l.row-counter 0 l.cells
