-- The bonds with an empty place are filled. The invariant: those of the strands passed hold, and what held its bond still does. Assumes nothing.
use Prim.Native.Nat.{ℕ, ◌<◌}
use Rattle.design.specs.Filling.{Kept, Holds}
use Rattle.design.specs.Design.{strand_bond_in, strands}
use Rattle.prepared.proofs.bonds.fill_empties.Given as goal

abbrev pub invariant-loop-x : goal.invariant-loop-x
invariant-loop-x l =
    Kept (strand_bond_in l.design) (strands l.design) l.initial.cells l.cells × ((y : ℕ) → y < l.x → Holds (strand_bond_in l.design) (strands l.design) l.cells y 0)
