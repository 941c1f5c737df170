-- `sdc1d_params::unfit_energy` meets its contract. Assumes nothing.
use mathlib.Core.Path.{◌≡◌, sym, ◌∙◌}
use mathlib.Core.Bool.{false}
use Rattle.sdc_common.specs.Lent.{leaves}
use Rattle.sdc1d_params.proofs.Sequences.{long-as-lent}
use Rattle.sdc1d_params.proofs.entries.unfit_energy.Goals as goal

pub returns-else-leaves : goal.returns-else-leaves
returns-else-leaves c =
    let part = c.in-Sequence.part in
    let in-text : leaves c.args.text.now part.start part.size ≡ false = sym c.leaves.ensures ∙ c.if-leaves.false in
    rw c.in-Sequence.is (long-as-lent c.args.text.now part.start part.size in-text)
