-- `sdc1d_params::FitEntry::has_bad_base` meets its contract: the sequence call refuses a byte that is no base. Assumes nothing.
use mathlib.Core.Path.{refl, sym, ap, ◌∙◌}
use Rattle.utils.specs.Single.{string_dna_dg_ds}
use Rattle.sdc_common.specs.Lent.{part_of}
use Rattle.sdc1d_params.specs.Entries.{has_bad_base}
use Rattle.sdc1d_params.proofs.Sequences.{sequence-in, sequence-fit, not-long, bad-told}
use Rattle.sdc1d_params.proofs.fit.FitEntry.has_bad_base.Goals as goal

pub bytes-requires : goal.bytes-requires
bytes-requires c = let self = c.args.self.now in sequence-in self.text.now self.entry self.fit c.gs_or_seq.ensures c.in-Sequence.part c.in-Sequence.is

pub returns-in-Sequence : goal.returns-in-Sequence
returns-in-Sequence c =
    let text = c.args.self.now.text.now in
    let part = c.in-Sequence.part in
    let is = sym c.gs_or_seq.ensures ∙ c.in-Sequence.is in
    let fit = sequence-fit text c.args.self.now.entry c.args.self.now.fit part is in
    let said = c.string_dna_dg_ds.ensures ∙ ap string_dna_dg_ds c.bytes.ensures in
    let told = bad-told (part_of text part.start part.size) (not-long text part fit) _ c.string_dna_dg_ds.result c.eq.result (rw c.err.ensures.value at c.eq.ensures) refl refl said in
    told ∙ sym (ap (has_bad_base text) is)
