-- `sdc1d_params::FitEntry::cell` meets its contract: the first name is always there, and the second makes a pair. Assumes nothing.
use mathlib.Core.Path.{ap, ◌∙◌}
use Rattle.sdc_common.specs.Lent.{Glue, part_of}
use Rattle.sdc1d_params.specs.Entries.{cell_of}
use Rattle.sdc1d_params.proofs.Lengths.{first-fit, second-fit}
use Rattle.sdc1d_params.proofs.Found.{one-found, pair-found, first-numbered}
use Rattle.sdc1d_params.proofs.fit.FitEntry.cell.Goals as goal

pub bytes-requires : goal.bytes-requires
bytes-requires c = let a = c.args in rw c.first_name.ensures (first-fit a.self.now.text.now a.self.now.entry a.self.now.fit)

pub bytes-requires-2 : goal.bytes-requires-2
bytes-requires-2 c = let a = c.args in second-fit a.self.now.text.now a.self.now.entry a.self.now.fit

pub returns-in-None : goal.returns-in-None
returns-in-None c =
    let a = c.args in
    let e = a.self.now.entry in
    let first = first-numbered a.bases.now a.self.now.text.now e c.first_name.ensures c.bytes.ensures c.number-first.ensures.value in
    c.one_cell.ensures ∙ one-found a.bases.now (part_of a.self.now.text.now e.first.start e.first.size) c.number-first.result first
    ∙ ap (λ (g : Glue). cell_of a.bases.now (part_of a.self.now.text.now e.first.start e.first.size) g) c.in-None.ensures

pub returns-in-Some : goal.returns-in-Some
returns-in-Some c =
    let a = c.args in
    let e = a.self.now.entry in
    let first = first-numbered a.bases.now a.self.now.text.now e c.first_name.ensures c.bytes.ensures c.number-first.ensures.value in
    pair-found a.bases.now (part_of a.self.now.text.now e.first.start e.first.size) c.number-first.result first c.in-Some.second.now c.number.result c.number.ensures.value
    ∙ ap (λ (g : Glue). cell_of a.bases.now (part_of a.self.now.text.now e.first.start e.first.size) g) c.in-Some.ensures
