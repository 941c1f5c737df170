-- `sdc1d_params::fill_cells` meets its contract: the cells of the entries passed are stored. Assumes nothing.
use mathlib.Core.Path.{◌≡◌}
use Rattle.lists.proofs.Counted.{stored}
use Rattle.sdc1d_params.specs.inner.Cells.{cell_at}
use Rattle.sdc1d_params.proofs.cells.fill_cells.Given as goal

abbrev pub invariant-loop-i : goal.invariant-loop-i
invariant-loop-i l = l.cells ≡ stored (cell_at l.bases l.set.lent.text.now l.set.lent.entries.now l.set.lent.energies.now) l.i l.initial.cells
