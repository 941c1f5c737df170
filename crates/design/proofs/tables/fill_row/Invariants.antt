-- The invariant: the first cells are stored. Assumes nothing.
use mathlib.Core.Path.{◌≡◌}
use Prim.Native.Nat.{ℕ}
use lib.Ieee.{Float}
use Rattle.lists.proofs.Counted.{stored}
use Rattle.design.specs.Filling.{GivesAt}
use Rattle.design.proofs.tables.fill_row.Given as goal

abbrev pub invariant-loop-strand : goal.invariant-loop-strand
invariant-loop-strand g l = (f : ℕ → Float) → GivesAt (goal.F-post g l.bond) f → l.row ≡ stored f l.strand l.fn.row
