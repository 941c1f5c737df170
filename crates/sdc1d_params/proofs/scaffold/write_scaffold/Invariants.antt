-- `sdc1d_params::write_scaffold` meets its contract: the numbers passed over are stored. Assumes nothing.
use mathlib.Core.Path.{◌≡◌}
use lib.ListN.{get_or}
use Rattle.lists.proofs.Counted.{stored}
use Rattle.sdc1d_params.proofs.scaffold.write_scaffold.Given as goal

abbrev pub invariant-loop-i : goal.invariant-loop-i
invariant-loop-i l = l.glues ≡ stored (λ k. get_or l.numbers k 0) l.i l.initial.glues
