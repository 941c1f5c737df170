-- `sdc1d_params::unfit_entry` meets its contract: its names first, then form and sequence. Assumes nothing.
use mathlib.Core.Path.{◌≡◌, sym, ◌∙◌}
use mathlib.Core.Bool.{true, false, ◌||◌}
use Rattle.sdc_common.specs.Lent.{unfit_name, unfit_glue}
use Rattle.sdc1d_params.specs.Entries.{unfit_entry}
use Rattle.sdc1d_params.proofs.entries.unfit_entry.Goals as goal

pub returns-then-unfit_pair : goal.returns-then-unfit_pair
unfolding unfit_entry
returns-then-unfit_pair c =
    let a = c.args in
    let bad : (unfit_name a.text.now a.entry.first.start a.entry.first.size || unfit_glue a.text.now a.entry.second) ≡ true = sym c.unfit_pair.ensures ∙ c.if-unfit_pair.true in
    rw bad c.if-unfit_pair.true

pub returns-else-unfit_pair : goal.returns-else-unfit_pair
unfolding unfit_entry
returns-else-unfit_pair c =
    let a = c.args in
    let good : (unfit_name a.text.now a.entry.first.start a.entry.first.size || unfit_glue a.text.now a.entry.second) ≡ false = sym c.unfit_pair.ensures ∙ c.if-unfit_pair.false in
    rw good c.unfit_form.ensures
