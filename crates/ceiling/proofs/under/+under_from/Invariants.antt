-- The search position by position meets its contract. The measure is how many positions are left; the invariant: none of the options passed begins a state under the ceiling, and nothing is written. Assumes nothing.
use mathlib.Core.Path.{◌≡◌}
use Prim.Native.Nat.{◌-◌}
use lib.ListN.{length}
use Rattle.model.specs.Model.{Model}
use Rattle.ensemble.specs.Layout.{OptionRows}
use Rattle.prepared.specs.Layout.{StateBonds}
use Rattle.prepared.specs.inner.Sums.{Beside}
use Rattle.ceiling.proofs.Passing.{rest_from}
use Rattle.ceiling.proofs.under.+under_from.Given as goal

abbrev pub decreases-under_from : goal.decreases-under_from
decreases-under_from l = length l.lent.now.options.counts.now - l.position

abbrev pub invariant-loop-strand : goal.invariant-loop-strand
invariant-loop-strand l =
    (m : Model) → OptionRows m l.lent.options.rows.now l.lent.options.counts.now → StateBonds m l.lent.bonds → l.limit.rt ≡ m.rt → Beside m l.position l.begun.strand
    → (l.entries ≡ l.initial.entries) × (rest_from m l.limit.ceiling l.position l.begun.strand l.begun.sum 0 ≡ rest_from m l.limit.ceiling l.position l.begun.strand l.begun.sum l.strand-index)
