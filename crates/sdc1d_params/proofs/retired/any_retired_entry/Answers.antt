-- `sdc1d_params::any_retired_entry` meets its contract: every entry is asked. Assumes nothing.
use mathlib.Core.Path.{◌∙◌}
use borrow.Author.Rules.{rules}
use Rattle.sdc1d_params.specs.Params.{is_retired_entry}
use Rattle.sdc1d_params.proofs.Lengths.{fit-entries, some-place}
use Rattle.sdc1d_params.proofs.retired.any_retired_entry.Goals as goal

pub first_entry-requires : goal.first_entry-requires
first_entry-requires c =
    let s = c.args.set.now in
    let fit = fit-entries s.lent.text.now s.lent.entries.now s.lent.energies.now s.fit in
    record { two_each = fit.many; callable = λ i h. let e = fit.each i h in search rules }

pub returns : goal.returns
returns c =
    let s = c.args.set.now in
    c.is_some.ensures ∙ some-place _ _ _ (c.first_entry.ensures (is_retired_entry s.lent.text.now) (λ i b h k. search rules))
