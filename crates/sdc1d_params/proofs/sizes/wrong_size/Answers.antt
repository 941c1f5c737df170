-- `sdc1d_params::wrong_size` meets its contract: lists of names first, then what is written. Assumes nothing.
use mathlib.Core.Path.{refl, sym, ◌∙◌}
use Rattle.sdc1d_params.specs.inner.Set.{set_of, as_lent}
use Rattle.sdc1d_params.proofs.Lengths.{size-looked, joined, passed-on}
use Rattle.sdc1d_params.proofs.sizes.wrong_size.Goals as goal

pub returns-then-unfit_lists : goal.returns-then-unfit_lists
returns-then-unfit_lists c =
    let a = c.args in
    joined _ (sym c.unfit_lists.ensures) c.if-unfit_lists.true refl ∙ sym (size-looked (set_of a.set.now) (as_lent a.lent.now) c.requires a.set.now.fit)

pub returns-else-unfit_lists : goal.returns-else-unfit_lists
returns-else-unfit_lists c =
    let a = c.args in
    passed-on (sym c.unfit_lists.ensures) c.if-unfit_lists.false c.unfit_output.ensures ∙ sym (size-looked (set_of a.set.now) (as_lent a.lent.now) c.requires a.set.now.fit)
