-- `sdc1d_params::FitEntry::is_retired` meets its contract: the first name is always there. Assumes nothing.
use Rattle.sdc1d_params.proofs.Lengths.{first-fit, second-fit}
use Rattle.sdc1d_params.proofs.Stars.{first-said}
use Rattle.sdc1d_params.proofs.fit.FitEntry.is_retired.Goals as goal

pub is_retired-requires : goal.is_retired-requires
is_retired-requires c =
    let a = c.args in
    rw c.first_name.ensures (first-fit a.self.now.text.now a.self.now.entry a.self.now.fit)

pub returns-then-is_retired : goal.returns-then-is_retired
returns-then-is_retired c =
    let s = c.args.self.now in
    simp (first-said s.text.now s.entry c.first_name.ensures c.is_retired.ensures c.if-is_retired.true) c.if-is_retired.true

pub is_retired-requires-else-is_retired : goal.is_retired-requires-else-is_retired
is_retired-requires-else-is_retired c =
    let a = c.args in
    second-fit a.self.now.text.now a.self.now.entry a.self.now.fit

pub returns-else-is_retired : goal.returns-else-is_retired
returns-else-is_retired c =
    let s = c.args.self.now in
    simp (first-said s.text.now s.entry c.first_name.ensures c.is_retired.ensures c.if-is_retired.false) c.is_retired-else-is_retired.ensures
