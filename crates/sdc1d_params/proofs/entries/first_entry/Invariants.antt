-- `sdc1d_params::first_entry` meets its contract: whatever the test says, no entry that was passed over passes it. Assumes nothing.
use mathlib.Core.Path.{◌≡◌}
use mathlib.Core.Bool.{Bool, false}
use Prim.Native.Nat.{ℕ, ◌<◌}
use Rattle.lists.specs.Find.{any}
use Rattle.lists.specs.Build.{tabulate}
use Rattle.sdc1d_params.specs.Entries.{entry_at, entry_rows}
use Rattle.sdc1d_params.specs.declared.Entry.{Entry}
use Rattle.sdc1d_params.proofs.entries.first_entry.Given as goal

abbrev pub invariant-loop-i : goal.invariant-loop-i
invariant-loop-i g l =
    (p : Entry → Bool)
    → ((i : ℕ) (b : Bool) → i < entry_rows l.lent.entries.now → goal.F-post g l.test (entry_at l.lent.entries.now l.lent.energies.now i) b → b ≡ p (entry_at l.lent.entries.now l.lent.energies.now i))
    → any p (tabulate l.i (entry_at l.lent.entries.now l.lent.energies.now)) ≡ false
