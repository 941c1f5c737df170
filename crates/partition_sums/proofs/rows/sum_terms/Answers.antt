-- The sum over options of what a closure gives meets its contract. Assumes nothing.
use mathlib.Core.Path.{sym, ap, ◌∙◌}
use Prim.Native.Nat.{◌+◌, ◌^◌}
use native.Mathlib.Omega.{arith}
use lib.ListN.{drop}
use Rattle.partition.specs.declared.Term.{Term}
use Rattle.partition.specs.Pass.{sum_from}
use Rattle.partition.specs.Terms.{plus}
use Rattle.partition.proofs.Cuts.{plus-cut}
use Rattle.partition_sums.proofs.Rowed.{sum_first, sum_more, sum_done, rest-at, rest-in, rest-past}
use Rattle.partition_sums.proofs.rows.sum_terms.Goals as goal

pub loop-x-init : goal.loop-x-init
loop-x-init g c =
    let n = c.requires.options_nonzero.0 in
    let e = c.term-sum.ensures in
    (c.requires.fit 0 _ n e, λ f h. sum_first f c.args.options.now n ∙ ap (λ (t : Term). sum_from f t (drop 1 c.args.options.now)) (sym (h 0 _ n e)))

pub term-requires : goal.term-requires
term-requires g c =
    let xs = c.args.options.now in
    let i = c.loop-x.x-index in
    rw (rest-at xs i) (c.requires.callable (i + 1) (rest-in xs i c.loop-x-test.true))

pub term_plus-sum-requires : goal.term_plus-sum-requires
term_plus-sum-requires g c =
    let xs = c.args.options.now in
    let i = c.loop-x.x-index in
    let h = rest-in xs i c.loop-x-test.true in
    let f = c.requires.fit (i + 1) _ h (rw (rest-at xs i) at c.term.ensures) in
    let s = c.loop-x.invariant.0 in
    let few = c.requires.options_nonzero.1 in
    record {
      normal = s.form;
      normal_2 = f.form;
      power_bound = (omega (arith, s.low), omega (arith, f.low));
    }

pub loop-x-preserved : goal.loop-x-preserved
loop-x-preserved g c =
    let xs = c.args.options.now in
    let l = c.loop-x in
    let i = l.x-index in
    let h = rest-in xs i c.loop-x-test.true in
    let e = rw (rest-at xs i) at c.term.ensures in
    let f = c.requires.fit (i + 1) _ h e in
    let s = l.invariant.0 in
    let p = plus-cut l.sum c.term.result (2 ^ 31 + i) s.form f.form s.low (omega (arith, f.low)) in
    rw c.term_plus-sum.ensures (
      record { form = p.form; low = omega (arith, p.low) },
      λ f k. l.invariant.1 f k ∙ sum_more f xs l.sum (i + 1) h ∙ ap (λ (t : Term). sum_from f (plus l.sum t) (drop (i + 1 + 1) xs)) (sym (k (i + 1) _ h e)),
    )

pub returns : goal.returns
returns g c =
    let xs = c.args.options.now in
    let l = c.loop-x in
    λ f k. sym (l.invariant.1 f k ∙ sum_done f xs l.sum (l.x-index + 1) (rest-past xs l.x-index c.loop-x-test.false))
