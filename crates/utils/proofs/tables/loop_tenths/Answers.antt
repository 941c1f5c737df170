-- `utils::loop_tenths` meets its contract: the table holds the loops' tenths, none below zero. Assumes nothing.
use mathlib.Core.Path.{refl}
use native.Mathlib.Omega.{arith}
use Rattle.lists.specs.Build.{keep}
use Rattle.utils.specs.Paper.{table4}
use Rattle.utils.specs.Figures.{loop_rows}
use Rattle.utils.proofs.Loops.{tenths-in-row, tenths-small, narrow}
use Rattle.utils.proofs.tables.loop_tenths.Goals as goal

pub returns : goal.returns
unfolding loop_rows keep table4
returns c =
    rw (tenths-in-row c.args.kind c.index-row.result c.args.at c.index-row.ensures.0 (omega arith), narrow c.args.kind c.args.at) (refl, tenths-small c.args.kind c.args.at)
