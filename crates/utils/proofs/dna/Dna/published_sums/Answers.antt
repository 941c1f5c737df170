-- `utils::Dna::published_sums` meets its contract: the paper's terms follow the stacks in their order. Assumes nothing.
use mathlib.Core.Path.{ap, ◌∙◌}
use lib.Ieee.{Float, binary64, add, of_bits}
use Rattle.doubles.specs.Decimal.{nearest}
use Rattle.utils.specs.Bases.{bases}
use Rattle.utils.specs.Paper.{initiation_dg, initiation_ds}
use Rattle.utils.specs.Figures.{stack_dg, stack_ds, start_dg, printed_start_ds, end_dg, end_ds, symmetric_dg, symmetric_ds}
use Rattle.utils.specs.Single.{stack_sum}
use Rattle.utils.specs.Terms.{published_dg, published_ds}
use Rattle.utils.proofs.Terms.{by-the-paper}
use Rattle.utils.proofs.dna.Dna.published_sums.Goals as goal

pub returns : goal.returns
unfolding published_dg published_ds start_dg printed_start_ds nearest initiation_dg initiation_ds of_bits
returns c =
    let dna = c.args.self.now.letters.now in (
      by-the-paper dna (stack_sum stack_dg (bases dna)) start_dg end_dg symmetric_dg
          (c.add-begun.ensures.0 ∙ ap (λ (x : Float). add binary64 x start_dg) c.single_sequence_dg_ds-stacks.ensures.0)
          (rw c.base.ensures at c.after_end-first.ensures.0) (rw c.base-2.ensures at c.after_end-last.ensures.0) c.after_symmetry.ensures.0,
      by-the-paper dna (stack_sum stack_ds (bases dna)) printed_start_ds end_ds symmetric_ds
          (c.add-begun.ensures.1 ∙ ap (λ (x : Float). add binary64 x printed_start_ds) c.single_sequence_dg_ds-stacks.ensures.1)
          (rw c.base.ensures at c.after_end-first.ensures.1) (rw c.base-2.ensures at c.after_end-last.ensures.1) c.after_symmetry.ensures.1,
    )
