-- The filling of a position's row from that of the next one meets its contract. Assumes nothing.
use mathlib.Core.Path.{◌≡◌, ap, ap₂, ◌∙◌}
use mathlib.Core.List.{List}
use Prim.Native.Nat.{ℕ, ◌+◌, ◌<◌}
use native.Mathlib.Omega.{arith}
use borrow.Author.Rules.{rules}
use lib.ListN.{length, get_or}
use Rattle.partition.specs.Terms.{times}
use Rattle.partition.specs.Pass.{sum_terms}
use Rattle.partition_sums.specs.Layout.{weights_of}
use Rattle.partition_sums.specs.inner.Rows.{joined}
use Rattle.partition_sums.proofs.Positions.{here, passed_at, searchable, item-in, known_of, joins_at, place-weighs, place-fit, joined-fit, joined-sum-fit, next-passed}
use Rattle.partition_sums.proofs.Rowed.{written-more, written-all}
use Rattle.partition_sums.proofs.rows.row_before.Goals as goal

pub sum_terms-sum-requires-clause-callable : goal.sum_terms-sum-requires-clause-callable
sum_terms-sum-requires-clause-callable c =
    let r = c.requires in
    let m = item-in c.loop-x.x-index c.of-x-items.ensures.row c.loop-x-test.true in
    λ k g _ _ _ _ _ _. joins_at c.args.formed.now c.args.position _ _ c.args.next_row.now r.next_in_bounds m r.next (item-in k c.of-next.ensures.row g)

pub sum_terms-sum-requires-clause-fit : goal.sum_terms-sum-requires-clause-fit
sum_terms-sum-requires-clause-fit c =
    let f = c.args.formed.now in
    let r = c.requires in
    let x = get_or c.of-x-items.result.now c.loop-x.x-index 0 in
    let m = item-in c.loop-x.x-index c.of-x-items.ensures.row c.loop-x-test.true in
    λ k t g e.
    let y = get_or c.of-next.result.now k 0 in
    let is : t ≡ joined (weights_of f.lent.weights) c.args.next_row.now x y = search rules in
    rw is (joined-fit (joins_at f c.args.position x y c.args.next_row.now r.next_in_bounds m r.next (item-in k c.of-next.ensures.row g)))

pub place_factor-place-requires-clause-weighs : goal.place_factor-place-requires-clause-weighs
place_factor-place-requires-clause-weighs c =
    place-weighs c.args.formed.now c.args.position (get_or c.of-x-items.result.now c.loop-x.x-index 0) (omega (arith, c.requires.next_in_bounds)) (item-in c.loop-x.x-index c.of-x-items.ensures.row c.loop-x-test.true)

pub term_times-requires : goal.term_times-requires
term_times-requires c =
    let f = c.args.formed.now in
    let w = weights_of f.lent.weights in
    let r = c.requires in
    let i = c.args.position in
    let row = c.args.next_row.now in
    let x = get_or c.of-x-items.result.now c.loop-x.x-index 0 in
    let m = item-in c.loop-x.x-index c.of-x-items.ensures.row c.loop-x-test.true in
    let p = place-fit f i x (omega (arith, r.next_in_bounds)) m in
    let s = joined-sum-fit f i x row r.next_in_bounds m r.next in
    let sum : c.sum_terms-sum.result ≡ sum_terms (joined w row x) (here f.lent (i + 1)) = c.sum_terms-sum.ensures (joined w row x) (λ k t g e. search rules) ∙ ap (sum_terms (joined w row x)) c.of-next.ensures.row in
    rw (c.place_factor-place.ensures, sum) (record {
      normal = p.form;
      normal_2 = s.form;
      power_bound = (omega (arith, p.low), omega (arith, s.low));
    })

pub loop-x-preserved : goal.loop-x-preserved
loop-x-preserved c =
    let f = c.args.formed.now in
    let l = f.lent in
    let w = weights_of l.weights in
    let r = c.requires in
    let i = c.args.position in
    let h : i < length l.options.counts.now = omega (arith, r.next_in_bounds) in
    let row = c.args.next_row.now in
    let k = c.loop-x.x-index in
    let x = get_or c.of-x-items.result.now k 0 in
    let known = known_of (searchable l) i x h (item-in k c.of-x-items.ensures.row c.loop-x-test.true) in
    let few = (searchable l).few in
    let sum : c.sum_terms-sum.result ≡ sum_terms (joined w row x) (here l (i + 1)) = c.sum_terms-sum.ensures (joined w row x) (λ k t g e. search rules) ∙ ap (sum_terms (joined w row x)) c.of-next.ensures.row in
    rw c.from.ensures (written-more (passed_at l i) (here l i) c.loop-x.row k x c.term_times.result (omega arith)
    (ap (λ (xs : List ℕ). get_or xs k 0) c.of-x-items.ensures.row)
    (c.term_times.ensures ∙ ap₂ times c.place_factor-place.ensures sum ∙ next-passed f i x row r.next_in_bounds r.next) c.loop-x.invariant)

pub returns : goal.returns
returns c = record { terms = written-all c.loop-x.invariant (let e = ap length c.of-x-items.ensures.row in let past = c.loop-x-test.false in omega arith) }
