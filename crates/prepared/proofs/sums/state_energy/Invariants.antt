-- The state energy meets its contract. The invariant: what is left to add, after the sum so far, gives the whole. Assumes nothing.
use mathlib.Core.Path.{◌≡◌}
use Prim.Native.Nat.{◌<◌}
use lib.ListN.{drop}
use Rattle.model.specs.Model.{Model, State}
use Rattle.doubles.specs.Decimal.{zero}
use Rattle.prepared.specs.inner.Sums.{sum_on, Beside}
use Rattle.prepared.specs.Layout.{StateBonds}
use Rattle.prepared.proofs.sums.state_energy.Given as goal

abbrev pub invariant-loop-position : goal.invariant-loop-position
invariant-loop-position l =
    (l.begun.strand < l.bonds.strand_bonds.strands)
    × ((m : Model) → StateBonds m l.bonds → State m l.state
    → (sum_on m 0 0 zero l.state ≡ sum_on m l.position l.begun.strand l.begun.sum (drop l.position l.state)) × Beside m l.position l.begun.strand)
