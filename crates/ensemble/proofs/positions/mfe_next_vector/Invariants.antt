-- The energies of a position's friends meet their contract. The invariant: the friends passed have theirs. Assumes nothing.
use mathlib.Core.Path.{◌≡◌}
use lib.ListN.{length}
use Rattle.ensemble.specs.inner.Entries.{settled_of, Energies}
use Rattle.ensemble.proofs.positions.mfe_next_vector.Given as goal

abbrev pub invariant-loop-k : goal.invariant-loop-k
invariant-loop-k l = record {
  wide : length l.energies ≡ 64;
  settled : Energies (settled_of l.scaffold_bonds l.potentials l.best) l.friends l.k l.energies;
}
