use mathlib.Core.Path.{◌≡◌, refl, ap, sym, ◌∙◌}
use mathlib.Core.Bool.{Bool, true, false}
use mathlib.Core.Logic.{inl, inr}
use mathlib.Core.List.{List}
use Prim.Native.Nat.{◌<◌}
use native.Mathlib.Nat.{not-suc-le-zero}
use native.Mathlib.Omega.{arith}
use lib.ListN.{length, replicate}
use Rattle.std.proofs.lemmas.Bool.{cases_lt}
use Rattle.lists.specs.Fold.{foldl}
use Rattle.lists.specs.Build.{tabulate}
use Rattle.lists.proofs.Counted.{fold_more}
use Rattle.sdc_common.proofs.Positions.{position_at, position_past}
use Rattle.sdc1d_params.specs.Places.{repeats}
use Rattle.sdc1d_params.specs.inner.Cells.{mark_both, is_marked}
use Rattle.sdc1d_params.proofs.Marked.{marked-is, nth}
use Rattle.sdc1d_params.proofs.Placed.{repeats-is}
use Rattle.sdc1d_params.proofs.cells.first_repeated.Goals as goal

pub loop-i-init : goal.loop-i-init
unfolding tabulate foldl
loop-i-init c = (refl, λ k h. absurd (not-suc-le-zero h))

pub returns-then-is_marked : goal.returns-then-is_marked
returns-then-is_marked c =
    let cells = c.args.cells.now in
    let f = nth cells in
    let l = c.loop-i in
    let i = l.i in
    let inside : i < length cells = omega arith in
    let met : repeats cells i ≡ true = repeats-is cells i inside ∙ sym (marked-is f i (λ k h. c.requires k (omega arith)) (c.requires i inside)) ∙ ap (λ (s : List Bool). is_marked s (f i)) (sym l.invariant.0) ∙ sym c.is_marked.ensures ∙ c.if-is_marked.true in
    sym (position_at (repeats cells) (length cells) (λ k. k) i l.invariant.1 inside met)

pub loop-i-preserved : goal.loop-i-preserved
loop-i-preserved c =
    let cells = c.args.cells.now in
    let f = nth cells in
    let l = c.loop-i in
    let i = l.i in
    let inside : i < length cells = omega arith in
    let unmet : repeats cells i ≡ false = repeats-is cells i inside ∙ sym (marked-is f i (λ k h. c.requires k (omega arith)) (c.requires i inside)) ∙ ap (λ (s : List Bool). is_marked s (f i)) (sym l.invariant.0) ∙ sym c.is_marked.ensures ∙ c.if-is_marked.false in (
      c.mark_both.ensures ∙ ap (λ (s : List Bool). mark_both s (f i)) l.invariant.0 ∙ sym (fold_more mark_both (replicate 4096 false) f i),
      λ k h. elim (cases_lt k i) [ inl m ↦ l.invariant.1 k m | inr m ↦ (let same : k ≡ i = omega (arith, h, m) in rw same unmet) ],
    )

pub returns : goal.returns
returns c =
    let cells = c.args.cells.now in
    let end : c.loop-i.i ≡ length cells = omega arith in
    sym (position_past (repeats cells) (length cells) (λ k. k) (rw end at c.loop-i.invariant.1))
