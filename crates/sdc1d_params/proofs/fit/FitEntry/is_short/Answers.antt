-- `sdc1d_params::FitEntry::is_short` meets its contract: the part of the text is as long as was lent. Assumes nothing.
use mathlib.Core.Path.{sym, ap, ◌∙◌}
use Rattle.sdc1d_params.specs.Entries.{is_short}
use Rattle.sdc1d_params.proofs.Sequences.{sequence-fit, short-as-lent}
use Rattle.sdc1d_params.proofs.fit.FitEntry.is_short.Goals as goal

pub returns-in-Sequence : goal.returns-in-Sequence
returns-in-Sequence c =
    let a = c.args in
    let part = c.in-Sequence.part in
    let is = sym c.gs_or_seq.ensures ∙ c.in-Sequence.is in
    let fit = sequence-fit a.self.now.text.now a.self.now.entry a.self.now.fit part is in
    short-as-lent a.self.now.text.now part fit ∙ sym (ap (is_short a.self.now.text.now) is)
