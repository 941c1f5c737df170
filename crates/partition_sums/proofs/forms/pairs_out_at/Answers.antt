-- The look at a position's pairs with the next meets its contract. Assumes nothing.
use mathlib.Core.Path.{ap, ◌∙◌}
use mathlib.Core.List.{List}
use Prim.Native.Nat.{ℕ, ◌+◌}
use native.Mathlib.Omega.{arith}
use Rattle.std.proofs.Common.{rules, tests}
use Rattle.std.proofs.lemmas.Iterator.{YieldsList-from_slice}
use Rattle.std.proofs.lemmas.Iterator.Adapters.{serves_from_places}
use Rattle.std.proofs.lemmas.Iterator.Search.{any_from_yields_List}
use Rattle.lists.specs.Find.{any}
use Rattle.partition.specs.Weights.{pairs_out}
use Rattle.partition_sums.specs.Layout.{friends_at, weights_of}
use Rattle.partition_sums.proofs.Outs.{friends-below, friend-below, pairs-at}
use Rattle.lists.proofs.Searches.{any_is}
use Rattle.partition_sums.proofs.Positions.{searchable}
use Rattle.partition_sums.proofs.forms.pairs_out_at.Goals as goal

pub any-requires-clause-callable : goal.any-requires-clause-callable
any-requires-clause-callable c =
    let l = c.args.lent.now in
    serves_from_places (YieldsList-from_slice c.friends.result.now cc) (λ x q k. search rules)
    (λ x k g e _ _ _ _ _ _ _ _. (
      friend-below (weights_of l.weights) l.options.rows.now l.options.counts.now (searchable l) c.args.position k x.now (omega (arith, c.requires)) c.friends.ensures.row g e,
      λ j h. rw c.friends-next.ensures.row (friends-below (weights_of l.weights) l.options.rows.now l.options.counts.now (searchable l) (c.args.position + 1) c.requires j (rw c.friends-next.ensures.row at h)),
    ))

pub returns : goal.returns
returns c =
    let l = c.args.lent.now in
    let p = pairs_out (weights_of l.weights) c.friends-next.result.now in
    any_from_yields_List p _ _ _ c.any.ensures.ran (YieldsList-from_slice c.friends.result.now cc) (λ x b q k. search (rules, tests))
    ∙ any_is p c.friends.result.now ∙ ap (any p) c.friends.ensures.row
    ∙ ap (λ (right : List ℕ). any (pairs_out (weights_of l.weights) right) (friends_at l.options.rows.now l.options.counts.now c.args.position)) c.friends-next.ensures.row
    ∙ pairs-at (weights_of l.weights) l.options.rows.now l.options.counts.now (searchable l) c.args.position c.requires
