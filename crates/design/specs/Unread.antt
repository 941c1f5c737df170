-- Only amounts of strands that are somewhere friends are read, and of a concentration its logarithm alone: designs that differ in nothing else get the same
-- answers.
use Rattle.std.specs.Prelude.{◌≡◌, false, List, ℕ, length, get_or, Float}
use Rattle.doubles.specs.Decimal.{zero}
use Rattle.model.specs.Model.{Friend}
use Rattle.design.specs.declared.Amounts.{Amounts}
use Rattle.design.specs.declared.Amounts.TheVariants.{Potentials}
use Rattle.design.specs.Design.{Design, design, strands, amount, potential_by, potential, model_of}
use Rattle.design.specs.Checks.{dilute}
use Rattle.design.specs.Answers.{strand_bond_answer, scaffold_bond_answer, friends_answer, friends_entries, count_answer, rank_answer, rank_entries, state_energy_answer, chain_energy_answer}

-- the design with other amounts
abbrev pub with_amounts : Design → List Float → Amounts → Design
with_amounts d amounts given = design d.scaffold d.marks d.glues d.dg d.ds amounts given d.ambient

-- amounts that read as the design's own: as many, dilute if these are, and of strands that are somewhere friends with the same potentials
pub record ReadAlike (d : Design) (amounts : List Float) (given : Amounts) : Type 0 where
  pub many : length amounts ≡ strands d
  pub dilute : dilute (with_amounts d amounts given) ≡ dilute d
  pub friends : (i strand : ℕ) → Friend (model_of d) i strand → potential d strand ≡ potential_by given (get_or amounts strand zero)

-- a potential for each strand, and of strands that are somewhere friends the design's own: of a concentration its logarithm
pub record PotentialsOf (d : Design) (potentials : List Float) : Type 0 where
  pub many : length potentials ≡ strands d
  pub friends : (i strand : ℕ) → Friend (model_of d) i strand → potential d strand ≡ get_or potentials strand zero

-- amounts that read as a design's own
pub record ReadsAlike (d : Design) (amounts : List Float) : Type 0 where
  -- those that differ in strands that are nowhere friends
  pub others :
      length amounts ≡ strands d
      → ((i strand : ℕ) → Friend (model_of d) i strand → amount d strand ≡ get_or amounts strand zero)
      → ReadAlike d amounts d.given
  -- and of a design without a dilute concentration, the logarithms of the concentrations as potentials
  pub logarithms : dilute d ≡ false → PotentialsOf d amounts → ReadAlike d amounts Potentials

-- each call gives the same number and figures, and leaves the same entries
pub record AnswersAlike (d e : Design) : Type 0 where
  pub strand_bonds : (x y : ℕ) → strand_bond_answer d x y ≡ strand_bond_answer e x y
  pub scaffold_bonds : (i strand : ℕ) → scaffold_bond_answer d i strand ≡ scaffold_bond_answer e i strand
  pub friends : (i : ℕ) (entries : List ℕ) → friends_answer d i entries ≡ friends_answer e i entries
  pub friend_entries : (i : ℕ) (entries : List ℕ) → friends_entries d i entries ≡ friends_entries e i entries
  pub counts : count_answer d ≡ count_answer e
  pub ranks : (rank : ℕ) (entries : List ℕ) → rank_answer d rank entries ≡ rank_answer e rank entries
  pub ranked_entries : (rank : ℕ) (entries : List ℕ) → rank_entries d rank entries ≡ rank_entries e rank entries
  pub state_energies : (s : List ℕ) → state_energy_answer d s ≡ state_energy_answer e s
  pub chain_energies : (s : List ℕ) → chain_energy_answer d s ≡ chain_energy_answer e s

-- of every design, admitted or not
pub record UnreadAmounts : Type 0 where
  pub reads : (d : Design) (amounts : List Float) → ReadsAlike d amounts
  pub answers : (d : Design) (amounts : List Float) (given : Amounts) → ReadAlike d amounts given → AnswersAlike d (with_amounts d amounts given)
