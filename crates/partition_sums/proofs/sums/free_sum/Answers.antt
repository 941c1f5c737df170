-- The pass over the positions meets its contract. Assumes nothing.
use mathlib.Core.Path.{◌≡◌, ap, ◌∙◌, subst}
use mathlib.Core.List.{List}
use Prim.Native.Nat.{ℕ, zero, suc, ◌*◌, ◌-◌, ◌≤◌, ◌<◌}
use native.Mathlib.Nat.{not-suc-le-zero}
use native.Mathlib.Omega.{arith}
use borrow.Author.Rules.{rules}
use lib.ListN.{length, get_or}
use Rattle.partition.specs.declared.Term.{Term}
use Rattle.partition.specs.Pass.{sum_terms}
use Rattle.partition.specs.Summed.{factors, lowered}
use Rattle.partition_sums.specs.declared.lent.Formed.{Formed}
use Rattle.partition_sums.specs.inner.Rows.{Row, row_term}
use Rattle.partition_sums.proofs.Positions.{here, searchable, item-in, row-terms, sum_of_row, row-whole, sum-bounded, sum-lowered}
use Rattle.partition_sums.proofs.sums.free_sum.Goals as goal

-- a state of n positions has 2 n - 1 factors
factors-is : (n : ℕ) → 0 < n → 2 * n - 1 ≡ factors n
factors-is zero h = absurd (not-suc-le-zero h)
factors-is (suc n) h = omega arith

-- the sum of position 0's row is the definition's
whole : (f : Formed) (row : List Term) (p : ℕ) (options : List ℕ) → p ≤ 0 → options ≡ here f.lent 0 → Row f.lent p row → sum_terms (row_term row) options ≡ sum_of_row f
whole f row p options past e r = ap (sum_terms (row_term row)) e ∙ row-whole f row (subst (λ (i : ℕ). Row f.lent i row) (omega arith) r)

pub sum_terms-requires-clause-fit : goal.sum_terms-requires-clause-fit
sum_terms-requires-clause-fit c =
    let f = c.args.formed.now in
    let past = c.loop-position-test.false in
    let first : c.loop-position.position ≡ 0 = omega arith in
    let row = subst (λ (i : ℕ). Row f.lent i c.loop-position.row) first c.loop-position.invariant in
    λ k t g e.
    let x = get_or c.of.result.now k 0 in
    let is : t ≡ row_term c.loop-position.row x = search rules in
    let h = row-terms f 0 c.loop-position.row f.some row x (item-in k c.of.ensures.row g) in
    rw is (record { form = h.form; low = omega (arith, h.low) })

pub lowered-requires : goal.lowered-requires
lowered-requires c =
    let f = c.args.formed.now in
    let some = f.some in
    let short = (searchable f.lent).short in
    let b = sum-bounded f in
    let sum = c.sum_terms.ensures (row_term c.loop-position.row) (λ k t g e. search rules) ∙ whole f c.loop-position.row c.loop-position.position c.of.result.now c.loop-position-test.false c.of.ensures.row c.loop-position.invariant in
    rw sum (record {
      digits_bound = b.0;
      power_bound = b.1;
      factors_bound = omega arith;
    })

pub returns : goal.returns
returns c =
    let f = c.args.formed.now in
    let sum = c.sum_terms.ensures (row_term c.loop-position.row) (λ k t g e. search rules) ∙ whole f c.loop-position.row c.loop-position.position c.of.result.now c.loop-position-test.false c.of.ensures.row c.loop-position.invariant in
    let some = f.some in
    c.lowered.ensures ∙ ap (λ (k : ℕ). lowered 400000 k c.sum_terms.result) (factors-is (length f.lent.options.counts.now) some) ∙ ap (lowered 400000 (factors (length f.lent.options.counts.now))) sum ∙ sum-lowered f
