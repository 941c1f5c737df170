use Rattle.lists.proofs.Grid.{row-end}
use native.Mathlib.Omega.{arith}
use Prim.Native.Nat.{ℕ}
use lib.ListN.{length, get_or}
use borrow.Author.Count.{below_more}
use Rattle.std.proofs.Common.{rules}
use Rattle.design.specs.Design.{strand_bond_in, strands}
use Rattle.design.specs.Filling.{HeldAt}
use Rattle.design.proofs.Held.{kept_then, held_kept}
use Rattle.design.proofs.needed.fill_neighbours.Goals as goal

pub loop-x-preserved : goal.loop-x-preserved
loop-x-preserved c =
    let d = c.args.design.now in
    let bond = strand_bond_in d in
    let left = c.args.left.now in
    let friends = c.args.friends.now in
    let cells = c.fill_cells.new.cells in
    let filled = rw (c.strands-strands.ensures, c.from.ensures) at (c.fill_cells.ensures bond (λ y answer k answers. rw c.from.ensures (search rules))) in (
      kept_then bond (strands d) c.loop-x.invariant.0 filled.0,
      below_more (λ (i : ℕ). HeldAt bond (strands d) cells (get_or left i 0) friends (length friends)) c.loop-x.x-index
          (λ i h. held_kept bond (strands d) (get_or left i 0) friends c.requires.among_2 filled.0 (c.loop-x.invariant.1 i h)) filled.1,
    )

pub fill_cells-requires-clause-cells_in_bounds : goal.fill_cells-requires-clause-cells_in_bounds
fill_cells-requires-clause-cells_in_bounds c =
    let end = row-end (strands c.args.design.now) (c.requires.among c.loop-x.x-index c.loop-x-test.true) in
    rw (c.from.ensures, c.strands-strands.ensures) (omega (arith, c.requires.strands_in_bounds))
