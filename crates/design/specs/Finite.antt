-- Every figure that a call on a design answers is finite, to whatever is sent: within document 01's limits no sum overflows, and a refusal has 0.0.
use Rattle.std.specs.Prelude.{List, ℕ}
use Rattle.std.specs.Float.{binary64}
use Rattle.doubles.specs.Size.{Within}
use Rattle.design.specs.Design.{Design}
use Rattle.design.specs.Answers.{strand_bond_answer, scaffold_bond_answer, state_energy_answer, chain_energy_answer}
use Rattle.design.specs.Laws.{Doubles}

-- each figure, with a bound on its size: bonds of at most 80,000, at most 384 of them in a sum, and RT of at most 8
pub record FiguresFinite (d : Design) : Type 0 where
  pub strand_bonds : (x y : ℕ) → Within binary64 80000 (strand_bond_answer d x y).figure
  pub scaffold_bonds : (i strand : ℕ) → Within binary64 80000 (scaffold_bond_answer d i strand).figure
  pub state_energies : (s : List ℕ) → Within binary64 245760000 (state_energy_answer d s).figure
  pub chain_energies : (s : List ℕ) → Within binary64 30720000 (chain_energy_answer d s).figure.bare
  pub chain_products : (s : List ℕ) → Within binary64 245760000 (chain_energy_answer d s).figure.times_rt

-- of every design, admitted or not
abbrev pub DesignFinite : Type 0
DesignFinite = (d : Design) → Doubles d → FiguresFinite d
