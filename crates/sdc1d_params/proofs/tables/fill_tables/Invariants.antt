-- `sdc1d_params::fill_tables` meets its contract: the entries passed are written. Assumes nothing.
use mathlib.Core.Path.{◌≡◌}
use Rattle.lists.specs.Fold.{foldl}
use Rattle.lists.specs.Build.{tabulate}
use Rattle.sdc1d_params.specs.Tables.{write_dg, write_ds}
use Rattle.sdc1d_params.specs.inner.Cells.{write_at}
use Rattle.sdc1d_params.proofs.tables.fill_tables.Given as goal

abbrev pub invariant-loop-i : goal.invariant-loop-i
invariant-loop-i l = (l.dg ≡ foldl write_dg l.initial.dg (tabulate l.i (write_at l.set.lent.text.now l.set.lent.entries.now l.set.lent.energies.now l.set.lent.penalty.dg.0 l.set.lent.penalty.ds.0 l.cells))) × (l.ds ≡ foldl write_ds l.initial.ds (tabulate l.i (write_at l.set.lent.text.now l.set.lent.entries.now l.set.lent.energies.now l.set.lent.penalty.dg.0 l.set.lent.penalty.ds.0 l.cells)))
