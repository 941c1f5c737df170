-- `utils::loop_energy` meets its contract: the two cases of the definition. Assumes nothing.
use mathlib.Core.Path.{◌∙◌}
use native.Mathlib.Omega.{arith}
use Rattle.logarithm.specs.Figure.{fixed}
use Rattle.logarithm.proofs.Double.{unit-is}
use Rattle.utils.proofs.LoopCode.{own_at, base-at, between-at}
use Rattle.utils.proofs.tables.loop_energy.Goals as goal

pub returns-then-base-length : goal.returns-then-base-length
returns-then-base-length c =
    c.loop_entry.ensures ∙ own_at c.args.length c.entry_up_to-at.result c.entry_up_to-at.ensures.1 c.args.kind c.if-base-length.true

pub loop_units-requires : goal.loop_units-requires
loop_units-requires c =
    let b = base-at c.args.length c.entry_up_to-at.result c.entry_up_to-at.ensures.1 (omega arith) (omega arith) c.if-base-length.false in
    (c.loop_tenths-tenths.ensures.1, b.0, b.1, omega arith)

pub returns : goal.returns
unfolding fixed
returns c =
    rw unit-is (between-at c.args.length c.entry_up_to-at.result c.entry_up_to-at.ensures.1 c.args.kind c.loop_tenths-tenths.result c.loop_units.result c.if-base-length.false c.loop_tenths-tenths.ensures.0 c.loop_units.ensures.0)
