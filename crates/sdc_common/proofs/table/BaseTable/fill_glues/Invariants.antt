-- `sdc_common::fill_glues` meets its contract: the numbers of the names passed are stored, and each fits a byte. Assumes nothing.
use mathlib.Core.Path.{◌≡◌}
use Rattle.lists.proofs.Counted.{stored}
use Rattle.sdc_common.proofs.Fit.{number_of_row}
use Rattle.sdc_common.proofs.table.BaseTable.fill_glues.Given as goal

abbrev pub invariant-loop-i : goal.invariant-loop-i
invariant-loop-i l = l.glues ≡ stored (number_of_row l.self l.text l.names) l.i l.initial.glues
