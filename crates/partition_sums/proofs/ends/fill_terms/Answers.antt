-- The writing of the pass's terms meets its contract. Assumes nothing.
use mathlib.Core.Path.{◌≡◌, ◌∙◌}
use Prim.Native.Nat.{◌+◌, ◌*◌, ◌-◌, ◌^◌}
use native.Mathlib.Omega.{arith}
use borrow.Author.Rules.{rules}
use lib.ListN.{length}
use Rattle.partition.specs.Weights.{weight_at}
use Rattle.partition.specs.inner.Used.{Fit}
use Rattle.partition_sums.specs.inner.Rows.{row_term, celled_term}
use Rattle.partition_sums.proofs.EndCells.{stored-more}
use Rattle.partition_sums.proofs.ends.fill_terms.Goals as goal

pub loop-position-init : goal.loop-position-init
loop-position-init c =
    let f = c.args.formed.now in
    let i = length f.lent.options.counts.now - 1 in
    let some = f.some in
    let e = c.fill_row.ensures in
    let row = c.last_row-row.result in
    let strands = f.lent.weights.strands in (
      c.last_row-row.ensures,
      e.digits_len,
      e.powers_len,
      stored-more f c.args.digits.now c.fill_row.new.digits c.args.powers.now c.fill_row.new.powers i e.kept row (omega arith) c.last_row-row.ensures (λ j x h k m. absurd (omega arith))
          (λ x h.
          let post = e.filled x h in
          let told : Fit (2 ^ 30) (row_term row x) → weight_at c.fill_row.new.digits c.fill_row.new.powers (i * strands + x) ≡ celled_term (row_term row x) = search rules in
          told),
    )

pub loop-position-preserved : goal.loop-position-preserved
loop-position-preserved c =
    let f = c.args.formed.now in
    let l = c.loop-position in
    let v = l.invariant in
    let i = l.position - 1 in
    let more = c.loop-position-test.true in
    let e = c.fill_row-in-loop-position.ensures in
    let row = c.row_before-row.result in
    let strands = f.lent.weights.strands in (
      c.row_before-row.ensures,
      e.digits_len ∙ v.1,
      e.powers_len ∙ v.2,
      stored-more f l.digits c.fill_row-in-loop-position.new.digits l.powers c.fill_row-in-loop-position.new.powers i e.kept row (omega arith) c.row_before-row.ensures (λ j x h k m. v.3.terms j x (omega arith) k m)
          (λ x h.
          let post = e.filled x h in
          let told : Fit (2 ^ 30) (row_term row x) → weight_at c.fill_row-in-loop-position.new.digits c.fill_row-in-loop-position.new.powers (i * strands + x) ≡ celled_term (row_term row x) = search rules in
          told),
    )
