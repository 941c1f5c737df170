-- `utils::loop_units` meets its contract, and there is room for the sum. Assumes nothing.
use mathlib.Core.Path.{refl}
use Prim.Native.Nat.{◌+◌, ◌*◌, ◌/◌, ◌^◌, ◌<◌}
use native.Mathlib.Nat.{le_trans}
use native.Mathlib.Omega.{arith}
use lib.Dec.{lit≤}
use Rattle.utils.specs.Figures.{between_units}
use Rattle.utils.proofs.LoopsNear.{log-room, between-small}
use Rattle.utils.proofs.tables.loop_units.Reads as reads
use Rattle.utils.proofs.tables.loop_units.Lts as lts
use Rattle.logarithm.proofs.ln_whole.Reads as ln-whole-reads
use Rattle.logarithm.proofs.mul_units.Reads as mul-units-reads
use Rattle.utils.proofs.tables.loop_units.Goals as goal

pub mul_units-requires : goal.mul_units-requires
mul_units-requires c = (lit≤ tt, rw c.ln_whole.ensures (le_trans (log-room c.args.tenths c.args.base c.args.length (omega arith) (omega arith) (omega arith) (omega arith)) (lit≤ tt)))

room : (c : lts.After-mul_units (ln-whole-reads.Asked, ln-whole-reads.Learnt, mul-units-reads.Asked, mul-units-reads.Learnt) reads.Pre reads.Post) → c.before.before.args.tenths * 2 ^ 46 / 10 + 2 * c.mul_units.result < 2 ^ 53
room c = rw (c.mul_units.ensures, c.before.ln_whole.ensures) (between-small c.before.before.args.tenths c.before.before.args.base c.before.before.args.length (omega arith) (omega arith) (omega arith) (omega arith))

pub overflow_mul-result-2 : goal.overflow_mul-result-2
overflow_mul-result-2 c = omega (arith, room c)

pub overflow_add-result : goal.overflow_add-result
overflow_add-result c = omega (arith, room c)

pub returns : goal.returns
unfolding between_units
returns c = (rw (c.mul_units.ensures, c.ln_whole.ensures) refl, room c)
