-- `sdc_common::Part::bytes` meets its contract: it is the part of the text. Assumes nothing.
use Rattle.sdc_common.proofs.Held.{part-is}
use Rattle.sdc_common.proofs.names.Part.bytes.Goals as goal

pub returns : goal.returns
returns c = let a = c.args in part-is a.text.now a.self.start a.self.size
