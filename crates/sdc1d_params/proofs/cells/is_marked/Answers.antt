-- `sdc1d_params::is_marked` meets its contract: a cell that is not written is not marked. Assumes nothing.
use mathlib.Core.Path.{◌≡◌, sym, ap, ◌∙◌}
use mathlib.Core.Bool.{true, false}
use Prim.Native.Nat.{ℕ}
use lib.ListN.{get_or}
use Rattle.sdc1d_params.specs.Entries.{is_written}
use Rattle.sdc1d_params.specs.inner.Cells.{is_marked}
use Rattle.sdc1d_params.proofs.cells.is_marked.Goals as goal

pub returns-then-is_written : goal.returns-then-is_written
unfolding is_marked
returns-then-is_written c =
    let written : is_written c.args.cell ≡ true = sym c.is_written.ensures ∙ c.if-is_written.true in
    rw written (ap (λ (k : ℕ). get_or c.args.seen.now k false) c.place.ensures.0)

pub returns-else-is_written : goal.returns-else-is_written
unfolding is_marked
returns-else-is_written c =
    let unwritten : is_written c.args.cell ≡ false = sym c.is_written.ensures ∙ c.if-is_written.false in
    rw unwritten c.if-is_written.false
