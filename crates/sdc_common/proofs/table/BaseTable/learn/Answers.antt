-- `sdc_common::learn` meets its contract: a base that the table lacks is put at its end. Assumes nothing.
use mathlib.Core.Path.{sym, ap, ◌∙◌}
use mathlib.Core.List.{List, ◌∷◌, [], ◌++◌}
use Prim.Native.Nat.{◌<◌}
use native.Mathlib.Omega.{arith}
use lib.ListN.{length}
use Rattle.std.specs.Prelude.{Option}
use denote.Ref.{Bor}
use Rattle.sdc_common.specs.Names.{Name}
use Rattle.sdc_common.specs.Numbers.{learn, is_known}
use Rattle.sdc_common.specs.inner.Table.{glue}
use Rattle.sdc_common.proofs.Held.{learn-none, learn-known, learn-new}
use Rattle.sdc_common.proofs.Rows.{unfound, found-some, held_more, held-many}
use Rattle.sdc_common.proofs.table.BaseTable.learn.Goals as goal

pub returns-then-is_none-clause-after : goal.returns-then-is_none-clause-after
returns-then-is_none-clause-after c =
    let bases = c.args.self.now in
    let name = c.in-Some.name.now in
    let base = c.base_of-base.ensures in
    let many = held-many c.self.inside.bases c.self.inside.count bases c.self.view_is (omega (arith, c.self.told, c.self.invariant)) in
    let room : c.self.inside.count < length c.self.inside.bases = omega (arith, c.self.told, c.requires) in
    let new = ap (is_known bases) (sym base) ∙ unfound bases _ c.find.result c.if-is_none.ensures c.find.ensures.found in
    held_more c.self.inside.bases c.self.inside.count c.base_of-base.result room
    ∙ ap (λ (bs : List Name). bs ++ (c.base_of-base.result.now ∷ [])) c.self.view_is
    ∙ ap (λ (b : Name). bases ++ (b ∷ [])) base
    ∙ learn-new bases name new
    ∙ ap (λ (n : Option (Bor Name)). learn bases (glue n)) (sym c.in-Some.is)

pub returns-else-is_none-clause-after : goal.returns-else-is_none-clause-after
returns-else-is_none-clause-after c =
    let bases = c.args.self.now in
    let old = ap (is_known bases) (sym c.base_of-base.ensures) ∙ found-some bases _ c.find.result c.if-is_none.ensures c.find.ensures.found in
    learn-known bases c.in-Some.name.now old ∙ ap (λ (n : Option (Bor Name)). learn bases (glue n)) (sym c.in-Some.is)

pub returns-in_default-clause-after : goal.returns-in_default-clause-after
returns-in_default-clause-after c =
    learn-none c.args.self.now ∙ ap (λ (n : Option (Bor Name)). learn c.args.self.now (glue n)) (sym c.in_default.is)
