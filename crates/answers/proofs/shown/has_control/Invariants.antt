-- `answers::shown::has_control` meets its contract: what was found, or the bytes that are left, tell. Assumes nothing.
use mathlib.Core.Path.{◌≡◌}
use mathlib.Core.Bool.{◌||◌}
use lib.ListN.{drop}
use Rattle.answers.specs.Shown.{has_control}
use Rattle.answers.proofs.shown.has_control.Given as goal

abbrev pub invariant-loop-byte : goal.invariant-loop-byte
invariant-loop-byte l = has_control 0 l.bytes ≡ (l.found || has_control l.before (drop l.byte-index l.bytes))
