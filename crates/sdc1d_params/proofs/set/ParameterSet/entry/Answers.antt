-- `sdc1d_params::ParameterSet::entry` meets its contract: each entry of the set is fit. Assumes nothing.
use Rattle.sdc1d_params.proofs.Lengths.{fit-entries}
use Rattle.sdc1d_params.proofs.set.ParameterSet.entry.Goals as goal

pub entry_at-requires : goal.entry_at-requires
entry_at-requires c =
    let s = c.args.self.now in
    (c.requires, (fit-entries s.lent.text.now s.lent.entries.now s.lent.energies.now s.fit).many)

pub fit-requires : goal.fit-requires
fit-requires c =
    let s = c.args.self.now in
    rw c.entry_at.ensures ((fit-entries s.lent.text.now s.lent.entries.now s.lent.energies.now s.fit).each c.args.i c.requires)
