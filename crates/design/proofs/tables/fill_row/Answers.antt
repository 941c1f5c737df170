use mathlib.Core.Path.{ap, ◌∙◌}
use mathlib.Core.List.{List}
use native.Mathlib.Omega.{arith}
use lib.ListN.{set}
use lib.Ieee.{Float}
use Rattle.lists.proofs.Counted.{stored-none, stored_more, stored-whole}
use Rattle.design.proofs.tables.fill_row.Goals as goal

pub loop-strand-init : goal.loop-strand-init
loop-strand-init g c f gives = stored-none f c.args.row.now

pub loop-strand-preserved : goal.loop-strand-preserved
loop-strand-preserved g c f gives =
    let strand = c.loop-strand.strand in
    ap (λ (t : List Float). set t strand c.bond.result) (c.loop-strand.invariant f gives)
    ∙ stored_more f strand c.args.row.now c.bond.result (omega arith) (gives strand c.bond.result (omega (arith, c.requires)) c.bond.ensures)

pub returns : goal.returns
returns g c f gives = c.loop-strand.invariant f gives ∙ stored-whole f c.loop-strand.strand c.args.row.now (omega arith)
