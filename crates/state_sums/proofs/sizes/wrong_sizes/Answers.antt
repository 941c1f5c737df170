-- Of lists that have the sizes asked for, each lies within the numbers. Assumes nothing.
use mathlib.Core.Path.{sym, ◌∙◌}
use Rattle.state_sums.specs.Sizes.{lists_lent}
use Rattle.state_sums.proofs.Lent.{lists-listed}
use Rattle.state_sums.proofs.sizes.wrong_sizes.Goals as goal

pub returns-else-wrong_cells-clause-listed : goal.returns-else-wrong_cells-clause-listed
returns-else-wrong_cells-clause-listed c right = lists-listed c.args.positions (lists_lent c.args.lists.now) (sym c.wrong_lists.ensures ∙ right)
