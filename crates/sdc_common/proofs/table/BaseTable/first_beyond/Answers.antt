use mathlib.Core.Path.{◌≡◌, sym, ap, ap₂, ◌∙◌}
use mathlib.Core.Bool.{true, false}
use mathlib.Core.Logic.{inl, inr}
use mathlib.Core.List.{List, []}
use Prim.Native.Nat.{ℕ, ◌/◌, ◌<◌}
use native.Mathlib.Nat.{not-suc-le-zero}
use native.Mathlib.Omega.{arith}
use lib.Dec.{ltb}
use lib.ListN.{length}
use borrow.Author.Tests.{lt-ltb, le-ltb}
use Rattle.std.proofs.lemmas.Bool.{cases_lt}
use Rattle.lists.specs.Fold.{foldl}
use Rattle.lists.specs.Build.{tabulate}
use Rattle.lists.proofs.Counted.{fold_more}
use Rattle.sdc_common.specs.Lent.{Glue, glue_of, names_of, glues_of}
use Rattle.sdc_common.specs.Numbers.{learn, crowds}
use Rattle.sdc_common.proofs.Fit.{glue_at}
use Rattle.sdc_common.proofs.Crowded.{crowds-is}
use Rattle.sdc_common.proofs.Positions.{position_at, position_past}
use Rattle.sdc_common.proofs.table.BaseTable.first_beyond.Goals as goal

pub loop-i-init : goal.loop-i-init
unfolding tabulate foldl
loop-i-init c = let e = c.empty-table.ensures in (rw e (omega arith), e, λ k h. absurd (not-suc-le-zero h))

pub learn-requires : goal.learn-requires
learn-requires c =
    let many = c.rows-row-items.ensures.len in
    let few = c.requires.names_len_bound in
    let held = c.loop-i.invariant.0 in
    omega (arith, many, few, held)

pub returns-then-most-len : goal.returns-then-most-len
returns-then-most-len c =
    let a = c.args in
    let i = c.loop-i.i in
    let many = c.rows-row-items.ensures.len in
    let f = glue_at a.text.now a.names.now in
    let in-rows : i < length a.names.now / 3 = omega (arith, many) in
    let here = c.bytes.ensures ∙ ap (glue_of a.text.now) (c.from-name.ensures ∙ c.rows-row-items.ensures.by_index i in-rows) in
    let learnt = c.learn.ensures.after ∙ ap₂ (λ (bases : List (List ℕ)) (g : Glue). learn bases g) c.loop-i.invariant.1 here ∙ sym (fold_more learn [] f i) in
    let over : crowds a.most (glues_of a.text.now (names_of a.names.now)) i ≡ true =
    crowds-is a.most a.text.now a.names.now i in-rows ∙ ap (λ (bases : List (List ℕ)). ltb a.most (length bases)) (sym learnt) ∙ lt-ltb _ _ (rw c.len.ensures at c.if-most-len.true) in
    sym (position_at (crowds a.most (glues_of a.text.now (names_of a.names.now))) (length a.names.now / 3) (λ k. k) i c.loop-i.invariant.2 in-rows over)

pub loop-i-preserved : goal.loop-i-preserved
loop-i-preserved c =
    let a = c.args in
    let i = c.loop-i.i in
    let many = c.rows-row-items.ensures.len in
    let f = glue_at a.text.now a.names.now in
    let p = crowds a.most (glues_of a.text.now (names_of a.names.now)) in
    let in-rows : i < length a.names.now / 3 = omega (arith, many) in
    let here = c.bytes.ensures ∙ ap (glue_of a.text.now) (c.from-name.ensures ∙ c.rows-row-items.ensures.by_index i in-rows) in
    let learnt = c.learn.ensures.after ∙ ap₂ (λ (bases : List (List ℕ)) (g : Glue). learn bases g) c.loop-i.invariant.1 here ∙ sym (fold_more learn [] f i) in
    let under : p i ≡ false =
    crowds-is a.most a.text.now a.names.now i in-rows ∙ ap (λ (bases : List (List ℕ)). ltb a.most (length bases)) (sym learnt) ∙ le-ltb _ _ (rw c.len.ensures at c.if-most-len.false) in
    let held = c.loop-i.invariant.0 in
    let more = c.learn.ensures.upper_bound in
    (omega (arith, held, more), learnt, λ k h. elim (cases_lt k i) [ inl l ↦ c.loop-i.invariant.2 k l | inr l ↦ (let same : k ≡ i = omega (arith, h, l) in rw same under) ])

pub returns : goal.returns
returns c =
    let a = c.args in
    let many = c.rows-row-items.ensures.len in
    let end : c.loop-i.i ≡ length a.names.now / 3 = omega (arith, many) in
    sym (position_past (crowds a.most (glues_of a.text.now (names_of a.names.now))) (length a.names.now / 3) (λ k. k) (rw end at c.loop-i.invariant.2))
