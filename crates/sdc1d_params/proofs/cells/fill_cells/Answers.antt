use mathlib.Core.Path.{ap₂, ◌∙◌}
use mathlib.Core.List.{List}
use Prim.Native.Nat.{ℕ}
use native.Mathlib.Omega.{arith}
use Rattle.lists.proofs.Counted.{stored-none, stored_more}
use Rattle.sdc1d_params.specs.inner.Cells.{cell_among, cell_at}
use Rattle.sdc1d_params.specs.declared.Entry.{Entry}
use Rattle.sdc1d_params.proofs.cells.fill_cells.Goals as goal

pub loop-i-init : goal.loop-i-init
loop-i-init c = stored-none (cell_at c.args.bases.now c.args.set.now.lent.text.now c.args.set.now.lent.entries.now c.args.set.now.lent.energies.now) c.args.cells.now

pub loop-i-preserved : goal.loop-i-preserved
loop-i-preserved c =
    let a = c.args in
    let s = a.set.now in
    let l = c.loop-i in
    let n = c.requires.cells_len in
    let made = c.cell.ensures ∙ ap₂ (λ (t : List ℕ) (e : Entry). cell_among a.bases.now t e) c.entry.ensures.0 c.entry.ensures.1 in
    rw l.invariant (stored_more (cell_at a.bases.now s.lent.text.now s.lent.entries.now s.lent.energies.now) l.i a.cells.now c.cell.result (omega arith) made)
