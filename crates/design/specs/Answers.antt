-- What each call answers of a design and of what is asked of it: document 01's number and figures, and what stands in the lent entries
-- afterwards; and the number and figures of each case of an answer of the code.
use Rattle.std.specs.Prelude.{List, ◌++◌, ℕ, length, drop, Float, Result}
use Rattle.doubles.specs.Decimal.{zero}
use Rattle.reply.specs.First.{first_of}
use Rattle.reply.specs.Figures.{Figures, figures_of, entries_of, result_figures}
use Rattle.reply.specs.declared.Refused.{Refused}
use Rattle.model.specs.States.{count, state_at}
use Rattle.model.specs.Energy.{state_energy, chain_energy, chain_product}
use Rattle.units.specs.declared.KcalPerMol.{KcalPerMol}
use Rattle.design.specs.declared.answers.ChainEnergy.{ChainEnergy}
use Rattle.design.specs.Design.{Design, strand_bond_in, scaffold_bond_in, friends_of, model_of}
use Rattle.design.specs.Checks.{strand_bond_checks, scaffold_bond_checks, friends_checks, count_checks, rank_checks, energy_checks}

-- ---- bonds

-- the answer of `bond_between_strands`
abbrev pub strand_bond_answer : Design → ℕ → ℕ → Figures Float
strand_bond_answer d x y = figures_of (first_of (strand_bond_checks d x y)) zero (strand_bond_in d x y)

-- the answer of `bond_with_scaffold`
abbrev pub scaffold_bond_answer : Design → ℕ → ℕ → Figures Float
scaffold_bond_answer d i strand = figures_of (first_of (scaffold_bond_checks d i strand)) zero (scaffold_bond_in d i strand)

-- ---- friends

-- the answer of `friends_btm`: how many there are
abbrev pub friends_answer : Design → ℕ → List ℕ → Figures ℕ
friends_answer d i entries = figures_of (first_of (friends_checks d i entries)) 0 (length (friends_of d i))

-- the lent entries afterwards: the friends, and the rest kept
abbrev pub friends_entries : Design → ℕ → List ℕ → List ℕ
friends_entries d i entries =
    entries_of (first_of (friends_checks d i entries)) entries (friends_of d i ++ drop (length (friends_of d i)) entries)

-- ---- states

-- the answer of `number_of_states`
abbrev pub count_answer : Design → Figures ℕ
count_answer d = figures_of (first_of (count_checks d)) 0 (count (model_of d))

-- the answer of `state_at_rank`: its number alone
abbrev pub rank_answer : Design → ℕ → List ℕ → Figures Unit
rank_answer d rank entries = figures_of (first_of (rank_checks d rank entries)) tt tt

-- the lent entries afterwards
abbrev pub rank_entries : Design → ℕ → List ℕ → List ℕ
rank_entries d rank entries = entries_of (first_of (rank_checks d rank entries)) entries (state_at (model_of d) rank)

-- ---- energies

-- the answer of `g_system`
abbrev pub state_energy_answer : Design → List ℕ → Figures Float
state_energy_answer d s = figures_of (first_of (energy_checks d s)) zero (state_energy (model_of d) s)

-- the chain energy as it is, and times RT
pub record Chain : Type 0 where
  pub bare : Float
  pub times_rt : Float

-- what a refusal carries in place of both
abbrev pub no_chain : Chain
no_chain = record { bare = zero; times_rt = zero }

-- the answer of `chain_energy`
abbrev pub chain_energy_answer : Design → List ℕ → Figures Chain
chain_energy_answer d s =
    figures_of (first_of (energy_checks d s)) no_chain (record { bare = chain_energy (model_of d) s; times_rt = chain_product (model_of d) s })

-- ---- the results of the code

-- of a bond
abbrev pub bond_figures : Result Float Refused → Figures Float
bond_figures = result_figures zero (λ bond. bond)

-- of a number of friends or of states
abbrev pub count_figures : Result ℕ Refused → Figures ℕ
count_figures = result_figures 0 (λ number. number)

-- of an energy
abbrev pub energy_figures : Result KcalPerMol Refused → Figures Float
energy_figures = result_figures zero (λ energy. energy.0)

-- of the chain energy
abbrev pub chain_figures : Result ChainEnergy Refused → Figures Chain
chain_figures = result_figures no_chain (λ energy. record { bare = energy.bare; times_rt = energy.times_rt.0 })
