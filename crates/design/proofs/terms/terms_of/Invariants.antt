-- The invariant: the places passed have their terms. Assumes nothing.
use mathlib.Core.Path.{◌≡◌}
use mathlib.Core.List.{List}
use Prim.Native.Nat.{ℕ, ◌+◌, ◌<◌}
use lib.ListN.{length, get_or}
use lib.Ieee.{Float}
use Rattle.doubles.specs.Decimal.{zero}
use Rattle.ensemble.specs.declared.energies.Terms.{Terms}
use Rattle.ensemble.specs.Layout.{terms_at}
use Rattle.design.specs.Design.{Design, strand_bond_in, scaffold_bond_in}
use Rattle.design.proofs.terms.terms_of.Given as goal

-- the terms of place k of a configuration
abbrev pub place : Design → List Float → List ℕ → ℕ → Terms
place d potentials s k =
    record { site = scaffold_bond_in d k (get_or s k 0); pair = strand_bond_in d (get_or s k 0) (get_or s (k + 1) 0); potential = get_or potentials (get_or s k 0) zero }

abbrev pub invariant-loop-position : goal.invariant-loop-position
invariant-loop-position l = record {
  wide : length l.terms ≡ 128;
  placed : (k : ℕ) → k < l.position → terms_at l.terms k ≡ place l.design l.potentials l.configuration k;
}
