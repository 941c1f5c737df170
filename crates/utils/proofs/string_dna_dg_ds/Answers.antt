-- `utils::string_dna_dg_ds` meets its contract: the reply is that of the checks, and the figures are the stacks' with the initiation. Assumes nothing.
use mathlib.Core.Path.{sym, ap, ◌∙◌}
use lib.Ieee.{of_bits}
use Rattle.doubles.specs.Decimal.{nearest}
use Rattle.reply.specs.First.{first_of}
use Rattle.reply.proofs.Bare.{same-error, answers}
use Rattle.utils.specs.Answers.{dg_ds_figures, refused_dg_ds}
use Rattle.utils.specs.Paper.{initiation_dg}
use Rattle.utils.specs.Figures.{start_dg, start_ds}
use Rattle.utils.specs.Single.{sequence_checks, string_dna_dg_ds}
use Rattle.utils.proofs.string_dna_dg_ds.Goals as goal

pub returns-in_err-dna : goal.returns-in_err-dna
unfolding string_dna_dg_ds
returns-in_err-dna c =
    ap dg_ds_figures (same-error _ c.from_residual.ensures) ∙ answers (first_of (sequence_checks c.args.dna.now)) refused_dg_ds _ (sym (rw c.in_err-dna.was at c.admitted.ensures))

pub returns : goal.returns
unfolding string_dna_dg_ds start_dg start_ds nearest initiation_dg of_bits
returns c =
    let read = rw c.in_ok-dna.was at c.admitted.ensures in
    rw (read.0, ← read.1) (cc)
