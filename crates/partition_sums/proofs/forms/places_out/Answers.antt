-- The look at all places meets its contract. Assumes nothing.
use mathlib.Core.Path.{refl, ◌∙◌}
use Prim.Native.Nat.{◌+◌}
use native.Mathlib.Omega.{arith}
use lib.ListN.{length}
use Rattle.std.proofs.Common.{rules, tests}
use Rattle.std.proofs.lemmas.Iterator.{YieldsList-from_range}
use Rattle.std.proofs.lemmas.Iterator.Search.{any_from_yields_List}
use Rattle.lists.proofs.Build.{any-past}
use Rattle.partition.specs.Weights.{places_out_at}
use Rattle.partition_sums.specs.Layout.{friends_of, weights_of}
use Rattle.partition_sums.proofs.Outs.{any-range}
use Rattle.partition_sums.proofs.forms.places_out.Goals as goal

pub returns : goal.returns
returns c =
    let l = c.args.lent.now in
    let n = length l.options.counts.now in
    let p = places_out_at (friends_of l.options) (weights_of l.weights) in
    any_from_yields_List p _ _ c.any.result c.any.ensures.ran (YieldsList-from_range 0 n n refl (omega arith)) (λ x b q k. search (rules, tests))
    ∙ any-range p n n 0 (omega arith) (any-past p n (0 + n) (omega arith))
