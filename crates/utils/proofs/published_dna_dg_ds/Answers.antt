-- `utils::published_dna_dg_ds` meets its contract: the reply is that of the checks, and the figures are the published sums. Assumes nothing.
use mathlib.Core.Path.{sym, ap, ◌∙◌}
use Rattle.reply.specs.First.{first_of}
use Rattle.reply.proofs.Bare.{same-error, answers}
use Rattle.utils.specs.Answers.{dg_ds_figures, refused_dg_ds}
use Rattle.utils.specs.Single.{sequence_checks}
use Rattle.utils.specs.Terms.{published_dna_dg_ds}
use Rattle.utils.proofs.Strands.{long-enough}
use Rattle.utils.proofs.published_dna_dg_ds.Goals as goal

pub published_sums-requires : goal.published_sums-requires
published_sums-requires c =
    let read = rw c.in_ok-dna.was at c.admitted.ensures in
    rw read.1 (long-enough c.args.dna.now read.0)

pub returns-in_err-dna : goal.returns-in_err-dna
unfolding published_dna_dg_ds
returns-in_err-dna c =
    ap dg_ds_figures (same-error _ c.from_residual.ensures) ∙ answers (first_of (sequence_checks c.args.dna.now)) refused_dg_ds _ (sym (rw c.in_err-dna.was at c.admitted.ensures))

pub returns : goal.returns
unfolding published_dna_dg_ds
returns c =
    let read = rw c.in_ok-dna.was at c.admitted.ensures in
    rw (read.0, ← read.1) (cc)
