-- `utils::calc_penalty` meets its contract: the table holds the mismatches' hundredths at the bases' numbers, and one division gives the energy.
-- Assumes nothing.
use mathlib.Core.Path.{ap, ◌∙◌}
use lib.IntN.{pos}
use Rattle.utils.specs.inner.Tables.{hundredths}
use Rattle.utils.proofs.ByBase.{at-bases3}
use Rattle.utils.proofs.Divided.{by_hundred, mismatch-divided}
use Rattle.utils.proofs.tables.calc_penalty.Goals as goal

pub returns : goal.returns
returns c =
    let args = c.args in
    let entry = at-bases3 (pos 0) hundredths args.penalties.now args.prior args.x args.y c.index-p.result c.index-i.result c.index-j.result c.requires c.index-p.ensures.0 c.index-i.ensures.0 c.index-j.ensures.0 in
    ap by_hundred entry ∙ mismatch-divided args.prior args.x args.y
