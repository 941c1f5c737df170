-- The sums of each strand at each position meet their contract. Assumes nothing.
use mathlib.Core.Path.{◌≡◌, subst, ◌∙◌}
use Prim.Native.Nat.{ℕ, ◌+◌, ◌*◌, ◌-◌}
use native.Mathlib.Nat.{not-suc-le-zero}
use native.Mathlib.Omega.{arith}
use borrow.Author.Rules.{rules}
use lib.ListN.{length-set, replicate}
use Rattle.std.proofs.lemmas.List.{get_or-replicate}
use Rattle.partition.specs.declared.Term.{Term}
use Rattle.partition.specs.Terms.{term}
use Rattle.partition.specs.Weights.{weight_at}
use Rattle.partition.specs.Summed.{one_term, occupant_sum_at}
use Rattle.partition_sums.specs.Layout.{options_of, weights_of}
use Rattle.partition_sums.specs.inner.Rows.{Before}
use Rattle.partition_sums.proofs.Positions.{searchable}
use Rattle.partition_sums.proofs.BothEnds.{first-before}
use Rattle.partition_sums.proofs.EndCells.{stored-less, summed-more, totals-more}
use Rattle.partition_sums.proofs.ends.fill_sums.Goals.{then-position-gt0, else-position-gt0}
use Rattle.partition_sums.proofs.ends.fill_sums.Goals as goal

pub loop-position-init : goal.loop-position-init
loop-position-init c =
    let f = c.args.formed.now in
    let e = c.fill_terms.ensures in (
      e.digits_len,
      e.powers_len,
      first-before f (replicate 64 (one_term 400000)) (λ x h. get_or-replicate {A = Term} 64 x (one_term 400000) (term 0 0) h),
      e.stored,
      λ j x h k. absurd (not-suc-le-zero h),
      search rules,
      λ j h. absurd (not-suc-le-zero h),
    )

pub loop-position-preserved : goal.loop-position-preserved
loop-position-preserved c =
    let f = c.args.formed.now in
    let l = c.loop-position in
    let v = l.invariant in
    let i = l.position-counter in
    let e = c.fill_row.ensures in
    let strands = f.lent.weights.strands in
    let inside = c.loop-position-test.true in
    let short = (searchable f.lent).short in
    let now : Before f.lent i c.if-position-gt0.before = elim c.if-position-gt0.branch [
      | then-position-gt0 w ↦
          let back : i - 1 + 1 ≡ i = omega (arith, w.if-position-gt0.true) in
          rw w.before-is (subst (λ (k : ℕ). Before f.lent k w.row_after-before.result) back w.row_after-before.ensures)
      | else-position-gt0 w ↦
          let first : i - 1 ≡ i = omega (arith, w.if-position-gt0.false) in
          rw w.before-is (subst (λ (k : ℕ). Before f.lent k l.before) first v.2)
    ] in
    let same : i ≡ i + 1 - 1 = omega arith in (
      e.digits_len ∙ v.0,
      e.powers_len ∙ v.1,
      subst (λ (k : ℕ). Before f.lent k c.if-position-gt0.before) same now,
      stored-less f l.digits c.fill_row.new.digits l.powers c.fill_row.new.powers i e.kept v.3,
      summed-more f l.digits c.fill_row.new.digits l.powers c.fill_row.new.powers i e.kept
          (λ x h.
          let post = e.filled x h in
          let told : weight_at c.fill_row.new.digits c.fill_row.new.powers (i * strands + x) ≡ occupant_sum_at (weights_of f.lent.weights) (options_of f.lent.options) i x = search rules in
          told)
          v.4,
      length-set l.totals i c.position_sum.result ∙ v.5,
      totals-more f i l.totals c.position_sum.result (rw v.5 (omega arith)) c.position_sum.ensures v.6,
    )
