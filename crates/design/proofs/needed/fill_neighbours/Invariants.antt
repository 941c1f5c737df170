-- The invariant: the cells of the left options passed hold their bonds, and what held its bond still does. Assumes nothing.
use Prim.Native.Nat.{ℕ, ◌<◌}
use lib.ListN.{length, get_or}
use Rattle.design.specs.Design.{strand_bond_in, strands}
use Rattle.design.specs.Filling.{Kept, HeldAt}
use Rattle.design.proofs.needed.fill_neighbours.Given as goal

abbrev pub invariant-loop-x : goal.invariant-loop-x
invariant-loop-x l =
    Kept (strand_bond_in l.design) (strands l.design) l.fn.cells l.cells
    × ((i : ℕ) → i < l.x-index → HeldAt (strand_bond_in l.design) (strands l.design) l.cells (get_or l.left i 0) l.friends (length l.friends))
