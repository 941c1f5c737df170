use mathlib.Core.Path.{◌≡◌, refl}
use Prim.Native.Nat.{◌+◌, ◌*◌, ◌-◌, ◌≤◌}
use native.Mathlib.Omega.{arith}
use lib.ListN.{length}
use Rattle.std.proofs.Common.{rules}
use Rattle.lists.proofs.Grid.{row-end, grid-none}
use Rattle.design.proofs.Parts.{grid-row}
use Rattle.design.proofs.tables.fill_rows.Goals as goal

pub loop-row-init : goal.loop-row-init
loop-row-init g c f gives = grid-none refl

pub loop-row-preserved : goal.loop-row-preserved
loop-row-preserved g c f gives =
    let a = c.args in
    let row = c.loop-row.row-counter in
    let size : row * a.strands + a.strands - row * a.strands ≡ a.strands = omega arith in
    let inside = row-end a.strands c.loop-row-test.true in
    let room : row * a.strands + a.strands ≤ length a.cells.now = omega (arith, c.requires.cells_in_bounds) in
    rw size (grid-row {row = c.fill_row.new.row} (c.loop-row.invariant f gives) room (rw size at (c.fill_row.ensures (f row) (λ strand answer k answers. gives row strand answer (omega (arith, c.requires.rows_bound)) k (search rules)))))

pub returns : goal.returns
returns g c f gives =
    let all : c.loop-row.row-counter ≡ c.args.rows = omega arith in
    rw all at (c.loop-row.invariant f gives)
