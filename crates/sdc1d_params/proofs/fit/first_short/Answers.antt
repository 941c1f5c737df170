-- `sdc1d_params::first_short` meets its contract: every entry is asked. Assumes nothing.
use mathlib.Core.Path.{◌∙◌}
use borrow.Author.Rules.{rules}
use Rattle.sdc1d_params.specs.Entries.{energy_of, entries_of, is_short}
use Rattle.sdc1d_params.proofs.Lengths.{fit-entries, position-map}
use Rattle.sdc1d_params.proofs.fit.first_short.Goals as goal

pub first_entry-requires : goal.first_entry-requires
first_entry-requires c =
    let s = c.args.set.now in
    let fit = fit-entries s.lent.text.now s.lent.entries.now s.lent.energies.now s.fit in
    record { two_each = fit.many; callable = λ i h. let e = fit.each i h in search rules }

pub returns : goal.returns
returns c =
    let s = c.args.set.now in
    c.first_entry.ensures (λ e. is_short s.lent.text.now (energy_of e)) (λ i b h k. search rules)
    ∙ position-map (is_short s.lent.text.now) energy_of (entries_of s.lent.entries.now s.lent.energies.now).each
