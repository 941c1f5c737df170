-- `utils::loop_entry` meets its contract: the table holds the loops' tenths, a row for each kind, and one division gives the energy.
-- Assumes nothing.
use Rattle.lists.specs.Build.{keep}
use Rattle.utils.specs.Paper.{table4}
use Rattle.utils.specs.Figures.{loop_rows}
use Rattle.utils.proofs.Loops.{entry-in-row}
use borrow.Author.Rules.{rules}
use Rattle.utils.proofs.tables.loop_entry.Goals as goal

pub returns : goal.returns
unfolding loop_rows keep table4
returns c =
    entry-in-row c.args.kind c.index-row.result c.args.at c.index-row.ensures.0 (search rules)
