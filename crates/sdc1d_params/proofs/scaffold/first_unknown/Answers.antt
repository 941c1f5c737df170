-- `sdc1d_params::first_unknown` meets its contract: each row goes with its number. Assumes nothing.
use Rattle.std.proofs.Common.{rules, tests}
use mathlib.Core.Path.{◌≡◌, sym, ap, subst, ◌∙◌}
use mathlib.Core.List.{List, []}
use Prim.Native.Nat.{ℕ, ◌/◌, ◌<◌}
use native.Mathlib.Omega.{arith}
use lib.ListN.{length, get_or}
use Rattle.std.specs.List.{zip}
use Rattle.std.proofs.lemmas.List.{get_or_read}
use Rattle.std.proofs.lemmas.Iterator.{YieldsList-from_slice, YieldsList-from_zip}
use Rattle.std.proofs.lemmas.Iterator.Adapters.{serves_from_places}
use Rattle.std.proofs.lemmas.Iterator.Search.{position_from_yields_List}
use Rattle.std.proofs.lemmas.Slice.Zip.{get_or-zip, length-zip}
use Rattle.sdc_common.specs.Lent.{name_at, glue_of}
use Rattle.sdc_common.specs.inner.Fit.{Fit}
use Rattle.sdc_common.specs.declared.names.LentName.{LentName}
use Rattle.sdc_common.proofs.Positions.{position-rows}
use Rattle.sdc1d_params.specs.inner.Scaffold.{unknown_by, unknown_at}
use Rattle.sdc1d_params.proofs.scaffold.first_unknown.Goals as goal

pub position-requires-clause-callable : goal.position-requires-clause-callable
position-requires-clause-callable c =
    serves_from_places (YieldsList-from_zip (YieldsList-from_slice c.rows.result.now cc) (YieldsList-from_slice c.args.numbers.now cc)) (λ x q k. search rules)
    (λ x k g e _ _ _ _ _ _ _ _ from _ _.
    let rows = c.rows.result.now in
    let many : k < length c.args.scaffold.now / 3 = let l = length-zip rows c.args.numbers.now in omega (arith, g, l, c.rows.ensures.len, c.requires.numbers_len) in
    let row = ap (λ (q : List ℕ × ℕ). q.0) (e ∙ get_or-zip rows c.args.numbers.now k (x.0.now, x.1.now) (omega (arith, many, c.rows.ensures.len)) (omega (arith, many, c.requires.numbers_len))) in
    let here = from.ensures ∙ ap (λ (r : List ℕ). name_at r 0) (get_or_read rows k x.0.now (omega (arith, many, c.rows.ensures.len)) row []) ∙ c.rows.ensures.by_index k many in
    subst (Fit c.args.text.now) (sym here) (c.requires.fit_names k many))

pub returns : goal.returns
returns c =
    let a = c.args in
    let rows = c.rows.result.now in
    let n = length a.scaffold.now / 3 in
    let p = λ (q : List ℕ × ℕ). unknown_by q.1 (glue_of a.text.now (name_at q.0 0)) in
    let by_call = position_from_yields_List p c.position.new.self _ _ c.position.ensures.ran (YieldsList-from_zip (YieldsList-from_slice rows cc) (YieldsList-from_slice a.numbers.now cc)) (λ x b q k. search (rules, tests)) in
    let many : length (zip rows a.numbers.now) ≡ n = let l = length-zip rows a.numbers.now in omega (arith, l, c.rows.ensures.len, c.requires.numbers_len) in
    by_call
    ∙ position-rows p (unknown_at a.text.now a.scaffold.now a.numbers.now) n ([], 0) (zip rows a.numbers.now) (λ k. k) many
    (λ k h. ap p (get_or-zip rows a.numbers.now k ([], 0) (omega (arith, h, c.rows.ensures.len)) (omega (arith, h, c.requires.numbers_len))) ∙ ap (λ (name : LentName). unknown_by (get_or a.numbers.now k 0) (glue_of a.text.now name)) (c.rows.ensures.by_index k h))
