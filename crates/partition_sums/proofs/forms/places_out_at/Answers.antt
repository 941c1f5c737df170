-- The look at a position's places meets its contract. Assumes nothing.
use mathlib.Core.Path.{ap, ◌∙◌}
use Rattle.lists.specs.Find.{any}
use Rattle.partition.specs.Weights.{place_out, unformed}
use Rattle.partition_sums.specs.Layout.{friends_at, weights_of}
use Rattle.partition_sums.specs.inner.Rows.{out_in}
use Rattle.partition_sums.proofs.Outs.{any-below, friends-below, places-at}
use Rattle.partition_sums.proofs.Positions.{searchable}
use Rattle.partition_sums.proofs.forms.places_out_at.Goals as goal

pub returns : goal.returns
returns c =
    let l = c.args.lent.now in
    let w = weights_of l.weights in
    let i = c.args.position in
    let friends = friends_at l.options.rows.now l.options.counts.now i in
    let row = c.place_row.result in
    c.row_out.ensures ∙ ap (any (out_in row.digits.now row.powers.now)) c.friends-friends.ensures.row
    ∙ any-below (out_in row.digits.now row.powers.now) (place_out w i) l.weights.strands friends (friends-below w l.options.rows.now l.options.counts.now (searchable l) i c.requires) (λ x h. ap unformed (c.place_row.ensures.weights x h))
    ∙ places-at w l.options.rows.now l.options.counts.now (searchable l) i c.requires
