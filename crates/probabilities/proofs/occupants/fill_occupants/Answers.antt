-- The probabilities of each occupant at each position meet their contract. Assumes nothing.
use mathlib.Core.Path.{◌≡◌, ap, ◌∙◌}
use Prim.Native.Nat.{ℕ, ◌*◌, ◌/◌, ◌%◌, ◌<◌}
use native.Mathlib.Nat.{le_refl, ne_of_lt}
use native.Mathlib.Omega.{arith}
use borrow.Author.Count.{below_more}
use Rattle.std.proofs.Common.{rules}
use lib.ListN.{set, length-set}
use Rattle.design.specs.Design.{positions, model_of}
use Rattle.partition.specs.Weights.{signed, weight_at}
use Rattle.probabilities.specs.Numbers.{Probability}
use Rattle.probabilities.specs.Occupants.{only_here}
use Rattle.probabilities.proofs.Cells.{total, total-form, dividend, part, kept}
use Rattle.probabilities.proofs.occupants.fill_occupants.Goals as goal

pub quotient-part-requires-clause-in_form : goal.quotient-part-requires-clause-in_form
quotient-part-requires-clause-in_form c =
    let d = c.args.admitted.now in
    let r = c.requires in
    let is = c.admitted.view_is in
    let rows : c.positions.result ≡ positions d = c.positions.ensures ∙ ap positions is in
    let n = c.strands-strands.result in
    let k = c.loop-cell.cell in
    let h : k < positions d * n = rw (← rows) c.loop-cell-test.true in
    total-form d (rw is at c.admitted.invariant.0.admitted) c.args.formed.now r.options r.near r.a_count_each n k h c.fill_sums-totals.result c.fill_sums-totals.ensures.totals

pub quotient-part-requires-clause-digits_bound : goal.quotient-part-requires-clause-digits_bound
quotient-part-requires-clause-digits_bound c =
    let d = c.args.admitted.now in
    let r = c.requires in
    let is = c.admitted.view_is in
    let rows : c.positions.result ≡ positions d = c.positions.ensures ∙ ap positions is in
    let n = c.strands-strands.result in
    let k = c.loop-cell.cell in
    let h : k < positions d * n = rw (← rows) c.loop-cell-test.true in
    (dividend d (rw is at c.admitted.invariant.0.admitted) c.args.formed.now r.options r.near r.a_count_each n k h c.fill_sums-totals.result c.fill_sums-totals.ensures.totals (weight_at c.loop-cell.digits c.loop-cell.powers k) (c.loop-cell.invariant.3 k (le_refl k) c.loop-cell-test.true)).digits

pub quotient-part-requires-clause-modest : goal.quotient-part-requires-clause-modest
quotient-part-requires-clause-modest c =
    let d = c.args.admitted.now in
    let r = c.requires in
    let is = c.admitted.view_is in
    let rows : c.positions.result ≡ positions d = c.positions.ensures ∙ ap positions is in
    let n = c.strands-strands.result in
    let k = c.loop-cell.cell in
    let h : k < positions d * n = rw (← rows) c.loop-cell-test.true in
    let a = rw is at c.admitted.invariant.0.admitted in (
      (dividend d a c.args.formed.now r.options r.near r.a_count_each n k h c.fill_sums-totals.result c.fill_sums-totals.ensures.totals (weight_at c.loop-cell.digits c.loop-cell.powers k) (c.loop-cell.invariant.3 k (le_refl k) c.loop-cell-test.true)).modest,
      (total d a c.args.formed.now r.options r.near r.a_count_each n k h c.fill_sums-totals.result c.fill_sums-totals.ensures.totals).modest,
    )

pub loop-cell-preserved : goal.loop-cell-preserved
loop-cell-preserved c =
    let d = c.args.admitted.now in
    let r = c.requires in
    let is = c.admitted.view_is in
    let rows : c.positions.result ≡ positions d = c.positions.ensures ∙ ap positions is in
    let n = c.strands-strands.result in
    let l = c.loop-cell in
    let k = l.cell in
    let v = l.invariant in
    let h : k < positions d * n = rw (← rows) c.loop-cell-test.true in
    let digits = set l.digits k c.quotient-part.result.digits in
    let powers = set l.powers k (signed c.quotient-part.result.power) in
    let other : (j : ℕ) → (j ≡ k → ⊥) → weight_at digits powers j ≡ weight_at l.digits l.powers j = λ j e. kept l.digits l.powers k j c.quotient-part.result.digits _ e in
    let now : weight_at digits powers k ≡ c.quotient-part.result = search rules in
    let probable : Probability (model_of d) (only_here (positions d) (k / n) (k % n)) c.quotient-part.result = part d (rw is at c.admitted.invariant.0.admitted) c.args.formed.now r.options r.near r.a_count_each n k h c.fill_sums-totals.result c.fill_sums-totals.ensures.totals (weight_at l.digits l.powers k) (v.3 k (le_refl k) c.loop-cell-test.true) c.quotient-part.result c.quotient-part.ensures in (
      length-set l.digits k c.quotient-part.result.digits ∙ v.0,
      length-set l.powers k _ ∙ v.1,
      below_more (λ (j : ℕ). Probability (model_of d) (only_here (positions d) (j / n) (j % n)) (weight_at digits powers j)) k (λ j b. rw (other j (ne_of_lt b)) (v.2 j b)) (rw now probable),
      λ j b e. other j (λ z. omega arith) ∙ v.3 j (omega arith) e,
    )
