-- The look at all neighbours meets its contract. Assumes nothing.
use mathlib.Core.Path.{refl, ◌∙◌}
use mathlib.Core.Bool.{Bool}
use Prim.Native.Nat.{ℕ, ◌+◌, ◌-◌}
use native.Mathlib.Omega.{arith}
use lib.ListN.{length}
use Rattle.std.proofs.Common.{rules, tests}
use Rattle.std.proofs.lemmas.Iterator.{YieldsList-from_range}
use Rattle.std.proofs.lemmas.Iterator.Search.{any_from_yields_List}
use Rattle.partition.specs.Weights.{pairs_out_at}
use Rattle.partition_sums.specs.Layout.{friends_of, weights_of}
use Rattle.partition_sums.proofs.Outs.{any-range, range-before, pairs_end}
use Rattle.partition_sums.proofs.Positions.{searchable}
use Rattle.partition_sums.proofs.forms.neighbours_out.Goals as goal

pub returns : goal.returns
returns c =
    let l = c.args.lent.now in
    let n = length l.options.counts.now in
    let q = pairs_out_at (friends_of l.options) (weights_of l.weights) in
    let p : ℕ → Bool = λ k. q (k - 1) in
    any_from_yields_List p _ _ c.any.result c.any.ensures.ran (YieldsList-from_range 1 n (n - 1) refl refl) (λ x b q k. search (rules, tests))
    ∙ range-before q (n - 1) 0
    ∙ any-range q n (n - 1) 0 (omega arith) (pairs_end (weights_of l.weights) l.options.rows.now l.options.counts.now (searchable l) (0 + (n - 1)) (omega arith))
