-- The row of what can stand before the options of the next position meets its contract. Assumes nothing.
use mathlib.Core.Path.{◌≡◌, ap, ◌∙◌}
use mathlib.Core.List.{List}
use Prim.Native.Nat.{ℕ, ◌+◌, ◌<◌}
use native.Mathlib.Omega.{arith}
use borrow.Author.Rules.{rules}
use lib.ListN.{length, get_or}
use Rattle.partition.specs.Pass.{sum_terms}
use Rattle.partition_sums.specs.Layout.{weights_of}
use Rattle.partition_sums.specs.inner.Rows.{before_term, led}
use Rattle.partition_sums.proofs.Positions.{here, searchable, item-in, known_of}
use Rattle.partition_sums.proofs.Rowed.{written-more, written-all}
use Rattle.partition_sums.proofs.BothEnds.{led-fit, leads_at, next-before}
use Rattle.partition_sums.proofs.ends.row_after.Goals as goal

pub sum_terms-sum-requires-clause-callable : goal.sum_terms-sum-requires-clause-callable
sum_terms-sum-requires-clause-callable c =
    let r = c.requires in
    let m = item-in c.loop-x.x-index c.of-x-items.ensures.row c.loop-x-test.true in
    let here : c.args.position < length c.args.formed.now.lent.options.counts.now = omega (arith, r.next_in_bounds) in
    λ k g _ _ _ _ _ _ _. (here, leads_at c.args.formed.now c.args.position _ _ c.args.row.now r.next_in_bounds (item-in k c.of-here.ensures.row g) r.here m)

pub sum_terms-sum-requires-clause-fit : goal.sum_terms-sum-requires-clause-fit
sum_terms-sum-requires-clause-fit c =
    let f = c.args.formed.now in
    let r = c.requires in
    let i = c.args.position in
    let y = get_or c.of-x-items.result.now c.loop-x.x-index 0 in
    let m = item-in c.loop-x.x-index c.of-x-items.ensures.row c.loop-x-test.true in
    λ k t g e.
    let x = get_or c.of-here.result.now k 0 in
    let is : t ≡ led (weights_of f.lent.weights) c.args.row.now i y x = search rules in
    rw is (led-fit (leads_at f i x y c.args.row.now r.next_in_bounds (item-in k c.of-here.ensures.row g) r.here m))

pub loop-x-preserved : goal.loop-x-preserved
loop-x-preserved c =
    let f = c.args.formed.now in
    let l = f.lent in
    let w = weights_of l.weights in
    let r = c.requires in
    let i = c.args.position in
    let row = c.args.row.now in
    let k = c.loop-x.x-index in
    let y = get_or c.of-x-items.result.now k 0 in
    let known = known_of (searchable l) (i + 1) y r.next_in_bounds (item-in k c.of-x-items.ensures.row c.loop-x-test.true) in
    let few = (searchable l).few in
    let sum : c.sum_terms-sum.result ≡ sum_terms (led w row i y) (here l i) = c.sum_terms-sum.ensures (led w row i y) (λ k t g e. search rules) ∙ ap (sum_terms (led w row i y)) c.of-here.ensures.row in
    rw c.from.ensures (written-more (before_term l (i + 1)) (here l (i + 1)) c.loop-x.next_row k y c.sum_terms-sum.result (omega arith)
    (ap (λ (xs : List ℕ). get_or xs k 0) c.of-x-items.ensures.row)
    (sum ∙ next-before f i y row r.next_in_bounds r.here) c.loop-x.invariant)

pub returns : goal.returns
returns c = record { terms = written-all c.loop-x.invariant (let e = ap length c.of-x-items.ensures.row in let past = c.loop-x-test.false in omega arith) }
