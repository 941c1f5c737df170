-- `sdc_common::find` meets its contract: a base is told by its bytes. Assumes nothing.
use Rattle.std.proofs.Common.{rules, tests}
use mathlib.Core.Path.{subst}
use mathlib.Core.List.{List}
use native.Mathlib.Omega.{arith}
use lib.ListN.{take}
use Rattle.std.proofs.lemmas.Iterator.{YieldsList-from_slice}
use Rattle.std.proofs.lemmas.Iterator.Search.{position_from_yields_List}
use Rattle.sdc_common.specs.Names.{Name}
use Rattle.sdc_common.specs.inner.Table.{Found}
use Rattle.sdc_common.proofs.Rows.{has_bytes, found, held-many}
use Rattle.sdc_common.proofs.table.BaseTable.find.Goals as goal

pub returns : goal.returns
returns c =
    let base = c.args.base.now in
    let held = take c.self.inside.count c.self.inside.bases in
    let by_call = position_from_yields_List (has_bytes base) _ _ c.position.result c.position.ensures.ran (YieldsList-from_slice held cc) (λ x b q k. search (rules, tests)) in
    let here = found base held c.position.result by_call in
    record {
      found = subst (λ (bases : List Name). Found bases base c.position.result) c.self.view_is here;
      room = let n = held-many c.self.inside.bases c.self.inside.count c.args.self.now c.self.view_is (omega (arith, c.self.told, c.self.invariant)) in omega (arith, c.self.invariant);
    }
