-- `sdc1d_params::write_strands` meets its contract: the four parts follow each other. Assumes nothing.
use mathlib.Core.Path.{◌∙◌}
use Rattle.sdc_common.specs.Lent.{Names, names_of, glues_of}
use Rattle.sdc_common.specs.Numbers.{numbers_among}
use Rattle.sdc1d_params.proofs.Laid.{strands-laid, part-many, glues-given, numbers-many}
use Rattle.sdc1d_params.proofs.strands.write_strands.Goals as goal

pub returns : goal.returns
returns c =
    let a = c.args in
    let strands : Names = names_of a.set.now.lent.strands.now in
    strands-laid a.set.now.lent.users a.glues.now (numbers_among (glues_of a.set.now.lent.text.now strands) (glues_of a.set.now.lent.text.now strands)) a.set.now.lent.copies.quencher a.set.now.lent.copies.reporter c.requires.glues_len
    (numbers-many a.set.now.lent.users a.set.now.lent.text.now strands c.requires.strands_value.0) c.requires.quencher_value.0 c.requires.quencher_value.1 _ _ _ _
    c.copy_from_slice.ensures.after
    (c.strand_glues.ensures.glues_after ∙ glues-given a.set.now.lent.users a.set.now.lent.text.now strands c.requires.strands_value.0 c.requires.strands_value.1 _ (part-many a.set.now.lent.users _ a.glues.now c.copy_from_slice.ensures.after c.requires.glues_len))
    (c.copy_from_slice-2.ensures.after ∙ c.quencher_sides-quencher.ensures)
    (c.copy_from_slice-3.ensures.after ∙ c.reporter_sides-reporter.ensures)
