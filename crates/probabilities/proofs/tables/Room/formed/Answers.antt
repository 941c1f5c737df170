-- Options and weights of an admitted design meet their contract. Assumes nothing.
use mathlib.Core.Path.{◌≡◌, refl, ap, ◌∙◌}
use native.Mathlib.Omega.{arith}
use lib.ListN.{length}
use Rattle.design.specs.Design.{positions, strands, model_of}
use Rattle.partition_sums.proofs.Options.{options-in}
use Rattle.probabilities.proofs.Used.{weights-near, in-use}
use Rattle.probabilities.proofs.tables.Room.formed.Goals as goal

pub invariant_of-result : goal.invariant_of-result
invariant_of-result c =
    let d = c.args.admitted.now in
    let given = rw c.tabled.ensures at c.options_of-options.ensures in
    let some = c.requires.scaffold_nonzero in
    let number : length c.options_of-options.result.counts.now ≡ positions d = given.counts_len in
    let wide : c.strands.result ≡ strands d = c.strands.ensures ∙ ap strands c.admitted.view_is in
    record {
      some = omega arith;
      in_use = rw (options-in (given.option_rows (model_of d) refl)) (in-use d _ wide c.fill_place_weights.ensures.filled c.fill_pair_weights.ensures.filled);
    }

pub returns : goal.returns
returns c =
    let d = c.args.admitted.now in
    let given = rw c.tabled.ensures at c.options_of-options.ensures in
    let wide : c.strands.result ≡ strands d = c.strands.ensures ∙ ap strands c.admitted.view_is in
    record {
      near = weights-near d _ wide c.fill_place_weights.ensures.filled c.fill_pair_weights.ensures.filled;
      options = options-in (given.option_rows (model_of d) refl);
      a_count_each = given.counts_len;
      wide = wide;
    }
