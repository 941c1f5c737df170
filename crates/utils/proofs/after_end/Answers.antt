-- `utils::after_end` meets its contract: the terms are added where the base's number is below 2. Assumes nothing.
use mathlib.Core.Path.{◌≡◌}
use mathlib.Core.Bool.{true, false}
use native.Mathlib.Omega.{arith}
use lib.Ieee.{of_bits}
use Rattle.doubles.specs.Decimal.{nearest}
use Rattle.doubles.specs.Sum.{sum_from}
use Rattle.utils.specs.Paper.{terminal_dg, terminal_ds}
use Rattle.utils.specs.Figures.{end_dg, end_ds}
use Rattle.utils.specs.Terms.{is_a_or_t}
use Rattle.utils.proofs.Terms.{low-number, high-number}
use Rattle.utils.proofs.after_end.Goals as goal

pub returns-then-index-lt2 : goal.returns-then-index-lt2
unfolding sum_from end_dg end_ds nearest terminal_dg terminal_ds of_bits
returns-then-index-lt2 c =
    let weak : is_a_or_t c.args.end ≡ true = low-number c.args.end (omega (arith, c.index.ensures.0)) in
    (simp weak c.add.ensures.0, simp weak c.add.ensures.1)

pub returns : goal.returns
unfolding sum_from
returns c =
    let strong : is_a_or_t c.args.end ≡ false = high-number c.args.end (omega (arith, c.index.ensures.0)) in
    (simp strong, simp strong)
