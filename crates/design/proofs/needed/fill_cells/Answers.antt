use mathlib.Core.Path.{◌≡◌}
use Prim.Native.Nat.{ℕ, ◌+◌, ◌*◌, ◌<◌}
use native.Mathlib.Omega.{arith}
use lib.ListN.{length, get_or}
use Rattle.design.proofs.Held.{kept_then, stored-kept, held_more}
use Rattle.design.proofs.needed.fill_cells.Goals as goal

pub loop-column-preserved : goal.loop-column-preserved
loop-column-preserved g c f gives =
    let a = c.args in
    let l = c.loop-column in
    let column : ℕ = get_or a.columns.now l.column-index 0 in
    let low = c.requires.among l.column-index (omega arith) in
    let inside : a.row * a.strands + column < length l.cells = omega (arith, c.requires.cells_in_bounds) in
    let is : c.bond.result ≡ f a.row column = gives column c.bond.result (omega (arith, c.requires.strands_bound)) c.bond.ensures in
    let before = l.invariant f gives in
    rw c.from.ensures (
      kept_then f a.strands before.0 (stored-kept f a.strands l.cells a.row column low inside is),
      held_more f a.strands l.cells a.row a.columns.now l.column-index c.requires.among (omega arith) inside is before.1,
    )

pub returns : goal.returns
returns g c f gives =
    let all : c.loop-column.column-index ≡ length c.args.columns.now = omega arith in
    rw all at (c.loop-column.invariant f gives)
