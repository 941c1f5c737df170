-- `sdc_common::any_retired` meets its contract: each row is a name. Assumes nothing.
use Rattle.std.proofs.Common.{rules, tests}
use mathlib.Core.Path.{sym, ap, subst, ◌∙◌}
use native.Mathlib.Omega.{arith}
use Rattle.sdc_common.specs.inner.Fit.{Fit}
use mathlib.Core.List.{List, []}
use Prim.Native.Nat.{ℕ, ◌/◌}
use lib.ListN.{length}
use Rattle.std.proofs.lemmas.List.{get_or_read}
use Rattle.std.proofs.lemmas.Iterator.{YieldsList-from_slice}
use Rattle.std.proofs.lemmas.Iterator.Adapters.{serves_from_places}
use Rattle.std.proofs.lemmas.Iterator.Search.{any_from_yields_List}
use Rattle.lists.specs.Find.{any}
use Rattle.lists.proofs.Searches.{any_is}
use Rattle.sdc_common.specs.Lent.{name_at, glue_of, is_retired_glue}
use Rattle.sdc_common.specs.declared.names.LentName.{LentName}
use Rattle.sdc_common.proofs.Fit.{glue_at, glues-listed, any-rows}
use Rattle.sdc_common.proofs.retired.any_retired.Goals as goal

pub any-requires-clause-callable : goal.any-requires-clause-callable
any-requires-clause-callable c =
    serves_from_places (YieldsList-from_slice c.rows.result.now cc) (λ x q k. search rules)
    (λ x k g e _ _ _ _ _ _ _ _ _ from _.
    let many = c.rows.ensures.len in
    let here = from.ensures ∙ ap (λ (row : List ℕ). name_at row 0) (get_or_read c.rows.result.now k x.now g e []) ∙ c.rows.ensures.by_index k (omega arith) in
    subst (Fit c.args.text.now) (sym here) (c.requires k (omega arith)))

pub returns : goal.returns
returns c =
    let a = c.args in
    let p = λ (row : List ℕ). is_retired_glue (glue_of a.text.now (name_at row 0)) in
    let by_call = any_from_yields_List p _ _ _ c.any.ensures.ran (YieldsList-from_slice c.rows.result.now cc) (λ x b q k. search (rules, tests)) in
    let here = any-rows p is_retired_glue [] c.rows.result.now (length a.names.now / 3) (glue_at a.text.now a.names.now) c.rows.ensures.len (λ k h. ap (λ (name : LentName). is_retired_glue (glue_of a.text.now name)) (c.rows.ensures.by_index k h)) in
    by_call ∙ any_is p c.rows.result.now ∙ here ∙ sym (ap (any is_retired_glue) (glues-listed a.text.now a.names.now))
