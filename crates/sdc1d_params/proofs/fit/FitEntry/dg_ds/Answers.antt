-- `sdc1d_params::FitEntry::dg_ds` meets its contract: the part of the text is handed to the sequence call. Assumes nothing.
use mathlib.Core.Path.{sym, ap, ◌∙◌}
use lib.Ieee.{of_bits}
use Rattle.utils.specs.Single.{string_dna_dg_ds}
use Rattle.sdc_common.specs.Lent.{part_of}
use Rattle.sdc1d_params.specs.Entries.{entry_dg, entry_ds}
use Rattle.sdc1d_params.proofs.Sequences.{sequence-in, taken}
use Rattle.sdc1d_params.proofs.fit.FitEntry.dg_ds.Goals as goal

pub bytes-requires : goal.bytes-requires
bytes-requires c = let self = c.args.self.now in sequence-in self.text.now self.entry self.fit c.gs_or_seq.ensures c.in-Sequence.part c.in-Sequence.is

pub returns-in-Sequence : goal.returns-in-Sequence
unfolding of_bits
returns-in-Sequence c =
    let text = c.args.self.now.text.now in
    let part = c.in-Sequence.part in
    let is = sym c.gs_or_seq.ensures ∙ c.in-Sequence.is in
    let said = c.string_dna_dg_ds.ensures ∙ ap string_dna_dg_ds c.bytes.ensures in
    let both = taken (part_of text part.start part.size) c.string_dna_dg_ds.result c.unwrap_or_default.result c.unwrap_or_default.ensures said in
    (both.0 ∙ sym (ap (entry_dg text) is), both.1 ∙ sym (ap (entry_ds text) is))
