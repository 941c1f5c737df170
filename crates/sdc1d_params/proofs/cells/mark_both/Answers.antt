-- `sdc1d_params::mark_both` meets its contract. Assumes nothing.
use mathlib.Core.Path.{◌≡◌, sym, ap, ◌∙◌}
use mathlib.Core.Bool.{true, false}
use Rattle.sdc1d_params.specs.Entries.{Cell, is_written}
use Rattle.sdc1d_params.specs.Tables.{place_of}
use Rattle.sdc1d_params.specs.inner.Cells.{mark_both}
use Rattle.sdc1d_params.proofs.cells.mark_both.Goals as goal

pub returns-then-is_written : goal.returns-then-is_written
unfolding mark_both
returns-then-is_written c =
    let written : is_written c.args.cell ≡ true = sym c.is_written.ensures ∙ c.if-is_written.true in
    let second : c.place-then-is_written.result ≡ place_of c.args.cell.column c.args.cell.row = c.place-then-is_written.ensures.0 ∙ ap (λ (x : Cell). place_of x.row x.column) c.mirror.ensures in
    rw (written, c.place.ensures.0, second)

pub returns-else-is_written : goal.returns-else-is_written
unfolding mark_both
returns-else-is_written c =
    let unwritten : is_written c.args.cell ≡ false = sym c.is_written.ensures ∙ c.if-is_written.false in
    rw unwritten
