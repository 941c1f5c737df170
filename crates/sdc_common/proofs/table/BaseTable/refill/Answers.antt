use mathlib.Core.Path.{◌≡◌, refl, sym, ap, ap₂, ◌∙◌}
use mathlib.Core.List.{List, []}
use Prim.Native.Nat.{ℕ, ◌/◌}
use native.Mathlib.Omega.{arith}
use lib.ListN.{length}
use Rattle.lists.specs.Fold.{foldl}
use Rattle.lists.specs.Build.{tabulate}
use Rattle.lists.proofs.Counted.{fold_more}
use Rattle.sdc_common.specs.Lent.{Glue, glue_of}
use Rattle.sdc_common.specs.Numbers.{learn, bases_of}
use Rattle.sdc_common.proofs.Fit.{glue_at, glues-listed}
use Rattle.sdc_common.proofs.table.BaseTable.refill.Goals as goal

pub loop-row-init : goal.loop-row-init
unfolding tabulate foldl
loop-row-init c = (omega arith, refl)

pub loop-row-preserved : goal.loop-row-preserved
loop-row-preserved c =
    let a = c.args in
    let i = c.loop-row.row-index in
    let many = c.rows-row-items.ensures.len in
    let f = glue_at a.text.now a.names.now in
    let here = c.bytes.ensures ∙ ap (glue_of a.text.now) (c.from.ensures ∙ c.rows-row-items.ensures.by_index i (omega arith)) in
    (omega (arith, c.learn.ensures.upper_bound), c.learn.ensures.after ∙ ap₂ (λ (bases : List (List ℕ)) (g : Glue). learn bases g) c.loop-row.invariant.1 here ∙ sym (fold_more learn [] f i))

pub returns : goal.returns
unfolding bases_of
returns c =
    let a = c.args in
    let many = c.rows-row-items.ensures.len in
    let f = glue_at a.text.now a.names.now in
    let e : c.loop-row.row-index ≡ length a.names.now / 3 = omega arith in
    c.loop-row.invariant.1 ∙ ap (λ (n : ℕ). foldl learn [] (tabulate n f)) e ∙ sym (ap (foldl learn []) (glues-listed a.text.now a.names.now))
