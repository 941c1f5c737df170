-- `sdc_common::LentName::bytes` meets its contract: a name that is fit ends within the text. Assumes nothing.
use mathlib.Core.Path.{sym, ap, ◌∙◌}
use mathlib.Core.Option.{some}
use Rattle.sdc_common.proofs.Held.{within, present-fit, glue-absent, glue-present}
use Rattle.sdc_common.proofs.names.LentName.bytes.Goals as goal

pub returns-then-self-eq-ABSENT : goal.returns-then-self-eq-ABSENT
returns-then-self-eq-ABSENT c = let a = c.args in sym (glue-absent a.text.now a.self c.if-self-eq-ABSENT.true)

pub bytes-requires : goal.bytes-requires
bytes-requires c = let a = c.args in within a.text.now a.self.part.start a.self.part.size (present-fit a.text.now a.self c.if-self-eq-ABSENT.false c.requires)

pub returns : goal.returns
returns c = let a = c.args in ap some c.bytes.ensures ∙ sym (glue-present a.text.now a.self c.if-self-eq-ABSENT.false)
