-- The sum over all states by the options of a position meets its contract. Assumes nothing.
use mathlib.Core.Path.{◌≡◌, sym, ap, ◌∙◌}
use mathlib.Core.List.{List, []}
use Prim.Native.Nat.{ℕ, ◌+◌, ◌*◌, ◌<◌}
use native.Mathlib.Omega.{arith}
use borrow.Author.Rules.{rules}
use lib.ListN.{length, get_or}
use Rattle.partition.specs.declared.Term.{Term}
use Rattle.partition.specs.Pass.{sum_terms}
use Rattle.partition.specs.Summed.{lowered, summed_at}
use Rattle.partition_sums.specs.Layout.{options_of}
use Rattle.partition_sums.specs.declared.lent.Formed.{Formed}
use Rattle.partition_sums.specs.inner.Rows.{row_term, through_term, Through}
use Rattle.partition_sums.proofs.Positions.{here, item-in}
use Rattle.partition_sums.proofs.Rowed.{sum-terms-same}
use Rattle.partition_sums.proofs.BothEnds.{at-is, many, through-fit, position-fit}
use Rattle.partition_sums.proofs.ends.position_sum.Goals as goal

-- the sum of a row is the position's
module _ (f : Formed) (i : ℕ) (row : List Term) (h : i < length f.lent.options.counts.now) (r : Through f.lent i row) where
  row-sum : sum_terms (row_term row) (here f.lent i) ≡ sum_terms (through_term f.lent i) (get_or (options_of f.lent.options) i [])
  row-sum = sum-terms-same (row_term row) (through_term f.lent i) (here f.lent i) r.terms ∙ ap (sum_terms (through_term f.lent i)) (sym (at-is f i h))

pub sum_terms-sum-requires-clause-fit : goal.sum_terms-sum-requires-clause-fit
sum_terms-sum-requires-clause-fit c =
    let f = c.args.formed.now in
    let r = c.requires in
    let i = c.args.position in
    λ k t g e.
    let x = get_or c.of.result.now k 0 in
    let m = item-in k c.of.ensures.row g in
    let is : t ≡ row_term c.args.row.now x = search rules in
    let p = through-fit f i x r.position_in_bounds m in
    rw (is, r.through.terms x m) (record { form = p.form; low = omega (arith, p.low) })

pub lowered-requires-clause-digits_bound : goal.lowered-requires-clause-digits_bound
lowered-requires-clause-digits_bound c =
    let f = c.args.formed.now in
    let r = c.requires in
    let i = c.args.position in
    let row = c.args.row.now in
    let sum = c.sum_terms-sum.ensures (row_term row) (λ k t g e. search rules) ∙ ap (sum_terms (row_term row)) c.of.ensures.row ∙ row-sum f i row r.position_in_bounds r.through in
    rw sum (position-fit f i r.position_in_bounds).form.most

pub lowered-requires-clause-power_bound : goal.lowered-requires-clause-power_bound
lowered-requires-clause-power_bound c =
    let f = c.args.formed.now in
    let r = c.requires in
    let i = c.args.position in
    let row = c.args.row.now in
    let sum = c.sum_terms-sum.ensures (row_term row) (λ k t g e. search rules) ∙ ap (sum_terms (row_term row)) c.of.ensures.row ∙ row-sum f i row r.position_in_bounds r.through in
    let p = (position-fit f i r.position_in_bounds).low in
    rw sum (omega arith)

pub returns : goal.returns
unfolding summed_at
returns c =
    let f = c.args.formed.now in
    let r = c.requires in
    let i = c.args.position in
    let row = c.args.row.now in
    let sum = c.sum_terms-sum.ensures (row_term row) (λ k t g e. search rules) ∙ ap (sum_terms (row_term row)) c.of.ensures.row ∙ row-sum f i row r.position_in_bounds r.through in
    let n : 2 * length f.lent.options.counts.now ≡ length (options_of f.lent.options) + length (options_of f.lent.options) = omega (arith, many f) in
    c.lowered.ensures ∙ ap (λ (k : ℕ). lowered 400000 k c.sum_terms-sum.result) n ∙ ap (lowered 400000 (length (options_of f.lent.options) + length (options_of f.lent.options))) sum
