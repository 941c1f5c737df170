-- The invariant: the cells of the strands passed hold their bonds, and what held its bond still does. Assumes nothing.
use Prim.Native.Nat.{ℕ}
use lib.Ieee.{Float}
use Rattle.design.specs.Filling.{GivesAt, Kept, HeldAt}
use Rattle.design.proofs.needed.fill_cells.Given as goal

abbrev pub invariant-loop-column : goal.invariant-loop-column
invariant-loop-column g l = (f : ℕ → ℕ → Float) → GivesAt (goal.F-post g l.bond) (f l.row) → Kept f l.strands l.fn.cells l.cells × HeldAt f l.strands l.cells l.row l.columns l.column-index
