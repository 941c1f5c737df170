-- The invariant: the places passed have their terms. Assumes nothing.
use mathlib.Core.Path.{◌≡◌}
use mathlib.Core.List.{List}
use Prim.Native.Nat.{ℕ, ◌+◌, ◌<◌}
use lib.ListN.{length, get_or}
use lib.Ieee.{Float}
use Rattle.ensemble.specs.declared.energies.Terms.{Terms}
use Rattle.ensemble.specs.Layout.{terms_at}
use Rattle.doubles.specs.Decimal.{zero}
use Rattle.bond_tables.specs.Tables.{bond_cell}
use Rattle.bond_tables.proofs.terms.terms_over.Given as goal

-- the terms of place k of a configuration, over strand bonds t and scaffold bonds u, as wide as there are strands
abbrev pub place : ℕ → List Float → List Float → List Float → List ℕ → ℕ → Terms
place strands t u potentials s k =
    record { site = bond_cell strands u k (get_or s k 0); pair = bond_cell strands t (get_or s k 0) (get_or s (k + 1) 0); potential = get_or potentials (get_or s k 0) zero }

abbrev pub invariant-loop-position : goal.invariant-loop-position
invariant-loop-position l = record {
  wide : length l.terms ≡ 128;
  placed : (k : ℕ) → k < l.position → terms_at l.terms k ≡ place l.strands l.tables.strand_bonds.now l.tables.scaffold_bonds.now l.potentials l.configuration k;
}
