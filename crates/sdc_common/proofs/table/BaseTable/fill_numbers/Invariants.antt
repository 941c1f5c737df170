-- `sdc_common::fill_numbers` meets its contract: the numbers of the names passed are stored. Assumes nothing.
use mathlib.Core.Path.{◌≡◌}
use Rattle.lists.proofs.Counted.{stored}
use Rattle.sdc_common.proofs.Fit.{number_of_row}
use Rattle.sdc_common.proofs.table.BaseTable.fill_numbers.Given as goal

abbrev pub invariant-loop-i : goal.invariant-loop-i
invariant-loop-i l = l.numbers ≡ stored (number_of_row l.self l.text l.names) l.i l.initial.numbers
