-- The search for rings meets its contract. The invariant: of the first occupants tried the first smallest is written, with its energy. Assumes nothing.
use mathlib.Core.Path.{◌≡◌}
use lib.ListN.{length}
use Rattle.model.specs.Model.{Model}
use Rattle.ensemble.specs.Lends.{Lends}
use Rattle.ensemble.specs.Ring.{ClosingCells}
use Rattle.ensemble.proofs.FirstOccupants.{KeptRing}
use Rattle.ensemble.proofs.rings.lowest_ring.Given as goal

abbrev pub invariant-loop-option : goal.invariant-loop-option
invariant-loop-option l = record {
  sized : length l.configuration ≡ length l.lent.options.counts.now;
  tried : (m : Model) → Lends m l.lent → ClosingCells m l.lent.options.strands l.lent.bonds.strand_bonds.cells.now → l.rt.0 ≡ m.rt → KeptRing m l.option l.configuration l.least;
}
