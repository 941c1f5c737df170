-- The places of a group's rows, in a slice that is lent for them.
use Rattle.std.specs.Prelude.{List, ℕ, length, take}
use Rattle.lists.specs.Front.{over}
use Rattle.statements.specs.declared.statement.Row.{Row}
use Rattle.sheet.specs.Rows.{rows_of}
use Rattle.sheet.specs.declared.rows.Group.{Group}

-- they stand first in what is lent, as far as they fit
unfoldable pub laid : Group → List Row → List ℕ → List ℕ
laid group rows lent = over (take (length lent) (rows_of group rows)) lent
