-- The search for a weight outside its form meets its contract. Assumes nothing.
use mathlib.Core.Path.{sym, ◌∙◌}
use Rattle.partition_sums.specs.Layout.{weights_of}
use Rattle.partition_sums.proofs.Outs.{place-decides, pairs_decide}
use Rattle.partition_sums.proofs.forms.weights_out.Goals as goal

pub returns-then-places_out : goal.returns-then-places_out
returns-then-places_out c =
    let l = c.args.lent.now in
    c.if-places_out.true ∙ place-decides (weights_of l.weights) l.options.rows.now l.options.counts.now (sym c.places_out.ensures ∙ c.if-places_out.true)

pub returns-else-places_out : goal.returns-else-places_out
returns-else-places_out c =
    let l = c.args.lent.now in
    pairs_decide (weights_of l.weights) l.options.rows.now l.options.counts.now (sym c.places_out.ensures ∙ c.if-places_out.false) c.neighbours_out.ensures
