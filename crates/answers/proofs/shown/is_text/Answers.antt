-- `answers::shown::is_text` meets its contract. Assumes nothing.
use Rattle.answers.proofs.Controls.{text_so, no_text}
use Rattle.answers.proofs.shown.is_text.Goals as goal

pub returns-in-Ok : goal.returns-in-Ok
returns-in-Ok c = text_so c.args.bytes.now c.in-Ok.ensures.cases.1 c.has_control.result c.has_control.ensures

pub returns-in-Err : goal.returns-in-Err
returns-in-Err c = no_text c.args.bytes.now c.in-Err.ensures.cases.0
