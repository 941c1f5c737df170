-- Stretches that may not be there: a word of no form stands for none, and none is before the first.
use Rattle.std.specs.Prelude.{Bool, false, cond, Option, None, Some}
use Rattle.deck.specs.Form.{Form, something, same_run}
use Rattle.deck.specs.declared.form.Stretch.{Stretch}

-- a stretch, if it has a position
abbrev pub found : Stretch → Option Stretch
found s = cond (something s) (Some s) None

-- whether a stretch is of one run with what stands before
abbrev pub joins : Form → Option Stretch → Stretch → Bool
joins form None s = false
joins form (Some before) s = same_run form before.occupant s.occupant
