-- `sdc_common::unfit_names` meets its contract: each row is a name. Assumes nothing.
use Rattle.std.proofs.Common.{rules, tests}
use mathlib.Core.Path.{ap, ◌∙◌}
use mathlib.Core.List.{List, []}
use Prim.Native.Nat.{ℕ, ◌/◌}
use lib.ListN.{length}
use Rattle.std.proofs.lemmas.Iterator.{YieldsList-from_slice}
use Rattle.std.proofs.lemmas.Iterator.Search.{any_from_yields_List}
use Rattle.lists.proofs.Searches.{any_is}
use Rattle.sdc_common.specs.Lent.{name_at, unfit_glue}
use Rattle.sdc_common.proofs.Fit.{any-rows, unfit-sizes, unfit-rows}
use Rattle.sdc_common.proofs.names.unfit_names.Goals as goal

pub returns-then-is_miscounted : goal.returns-then-is_miscounted
returns-then-is_miscounted c = let a = c.args in unfit-sizes a.n a.text.now a.names.now c.is_miscounted.result c.is_miscounted.ensures c.if-is_miscounted.true

pub returns-else-is_miscounted : goal.returns-else-is_miscounted
returns-else-is_miscounted c =
    let a = c.args in
    let p = λ (row : List ℕ). unfit_glue a.text.now (name_at row 0) in
    let by_call = any_from_yields_List p _ _ _ c.any.ensures.ran (YieldsList-from_slice c.rows.result.now cc) (λ x b q k. search (rules, tests)) in
    let here = any-rows p (unfit_glue a.text.now) [] c.rows.result.now (length a.names.now / 3) (name_at a.names.now) c.rows.ensures.len (λ k h. ap (unfit_glue a.text.now) (c.rows.ensures.by_index k h)) in
    by_call ∙ any_is p c.rows.result.now ∙ here ∙ unfit-rows a.n a.text.now a.names.now c.is_miscounted.result c.is_miscounted.ensures c.if-is_miscounted.false
