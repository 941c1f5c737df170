-- `statements::statement::Row::accept` meets its contract, item by item. Assumes nothing.
use mathlib.Core.Path.{subst}
use native.Mathlib.Omega.{arith}
use Prim.Native.Nat.{◌<◌}
use Rattle.statements.specs.Grammar.{InRow}
use Rattle.statements.proofs.statement.Row.accept.Goals as goal

pub bounds-self-slot : goal.bounds-self-slot
bounds-self-slot c = subst InRow c.in-Number.is (c.requires _ c.in-Some.is)

pub offset_bounds-self-slot : goal.offset_bounds-self-slot
offset_bounds-self-slot c =
    let slot : c.in-Number.slot < 3 = subst InRow c.in-Number.is (c.requires _ c.in-Some.is) in
    omega arith

pub put-requires : goal.put-requires
put-requires c = subst InRow c.in-Name.is (c.requires _ c.in-Some.is)

pub put-requires-in-Glue : goal.put-requires-in-Glue
put-requires-in-Glue c = subst InRow c.in-Glue.is (c.requires _ c.in-Some.is)

pub put-requires-in-Bases : goal.put-requires-in-Bases
put-requires-in-Bases c = subst InRow c.in-Bases.is (c.requires _ c.in-Some.is)
