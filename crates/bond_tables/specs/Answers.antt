-- What the calls over tables answer: document 02's number, place and figures, and what stands in the lent slices afterwards.
use Rattle.std.specs.Prelude.{◌≡◌, Bool, false, not, ◌||◌, List, [], ◌++◌, ℕ, eqb, length, Float, Result}
use Rattle.doubles.specs.Decimal.{zero}
use Rattle.reply.specs.First.{Check, first_of}
use Rattle.reply.specs.Figures.{Figures, figures_of, entries_of}
use Rattle.model.specs.States.{count, state_at}
use Rattle.model.specs.Energy.{state_energy}
use Rattle.model.specs.Search.{search}
use Rattle.model.specs.LowestConfiguration.{LowestConfiguration}
use Rattle.design.specs.Design.{Design, positions}
use Rattle.design.specs.Checks.{Admitted, ranged_checks, number_checks, design_checks, own_count_checks, own_rank_checks, own_energy_checks}
use Rattle.design.specs.Answers.{energy_figures}
use Rattle.reply.specs.declared.Refused.{Refused}
use Rattle.units.specs.declared.KcalPerMol.{KcalPerMol}
use Rattle.bond_tables.specs.Tables.{strand_table, scaffold_table, wrong_tables, bonds_out, model_over}

-- ---- filling: both tables are checked before either is written

-- the design's checks, and the length of either table
abbrev pub fill_checks : Design → List Float → List Float → List Check
fill_checks d strand_cells scaffold_cells = design_checks (wrong_tables d strand_cells scaffold_cells) d [] []

-- the answer of `fill_bond_tables`: its number and place alone
abbrev pub fill_answer : Design → List Float → List Float → Figures Unit
fill_answer d strand_cells scaffold_cells = figures_of (first_of (fill_checks d strand_cells scaffold_cells)) tt tt

-- the lent cells afterwards: of the strand bonds
abbrev pub filled_strands : Design → List Float → List Float → List Float
filled_strands d strand_cells scaffold_cells = entries_of (first_of (fill_checks d strand_cells scaffold_cells)) strand_cells (strand_table d)

-- and of the scaffold bonds
abbrev pub filled_scaffold : Design → List Float → List Float → List Float
filled_scaffold d strand_cells scaffold_cells = entries_of (first_of (fill_checks d strand_cells scaffold_cells)) scaffold_cells (scaffold_table d)

-- ---- over tables

-- What every call over tables checks: the sizes, with its own and those of the tables; the glue cells, each with its place; the bond cells, which
-- have none; what binds to null; the call's own of 11 to 13; and the design's numbers.
abbrev pub over_checks : Bool → Design → List Float → List Float → List Check → List Check
over_checks own_size d strand_cells scaffold_cells own =
    ranged_checks (own_size || wrong_tables d strand_cells scaffold_cells) (bonds_out strand_cells scaffold_cells) d.scaffold d.marks d.glues d.dg d.ds d.amounts ++ (own ++ number_checks d)

-- a configuration has one entry for each position
abbrev pub energy_over_checks : Design → List Float → List Float → List ℕ → List Check
energy_over_checks d strand_cells scaffold_cells s = over_checks (not (eqb (length s) (positions d))) d strand_cells scaffold_cells (own_energy_checks d s)

-- the answer of `state_energy_over`
abbrev pub energy_over_answer : Design → List Float → List Float → List ℕ → Figures Float
energy_over_answer d strand_cells scaffold_cells s =
    figures_of (first_of (energy_over_checks d strand_cells scaffold_cells s)) zero (state_energy (model_over d strand_cells scaffold_cells) s)

-- what is refused of the count
abbrev pub count_over_checks : Design → List Float → List Float → List Check
count_over_checks d strand_cells scaffold_cells = over_checks false d strand_cells scaffold_cells (own_count_checks d)

-- the answer of `count_over`
abbrev pub count_over_answer : Design → List Float → List Float → Figures ℕ
count_over_answer d strand_cells scaffold_cells = figures_of (first_of (count_over_checks d strand_cells scaffold_cells)) 0 (count (model_over d strand_cells scaffold_cells))

-- a state is written into one lent entry for each position
abbrev pub rank_over_checks : Design → List Float → List Float → ℕ → List ℕ → List Check
rank_over_checks d strand_cells scaffold_cells rank entries =
    over_checks (not (eqb (length entries) (positions d))) d strand_cells scaffold_cells (own_rank_checks d rank)

-- the answer of `state_over`: its number and place alone
abbrev pub rank_over_answer : Design → List Float → List Float → ℕ → List ℕ → Figures Unit
rank_over_answer d strand_cells scaffold_cells rank entries = figures_of (first_of (rank_over_checks d strand_cells scaffold_cells rank entries)) tt tt

-- the lent entries afterwards
abbrev pub rank_over_entries : Design → List Float → List Float → ℕ → List ℕ → List ℕ
rank_over_entries d strand_cells scaffold_cells rank entries =
    entries_of (first_of (rank_over_checks d strand_cells scaffold_cells rank entries)) entries (state_at (model_over d strand_cells scaffold_cells) rank)

-- the configuration is written into one lent entry for each position
abbrev pub search_over_checks : Design → List Float → List Float → List ℕ → List Check
search_over_checks d strand_cells scaffold_cells entries = over_checks (not (eqb (length entries) (positions d))) d strand_cells scaffold_cells []

-- the answer of `search_over`
abbrev pub search_over_answer : Design → List Float → List Float → List ℕ → Figures Float
search_over_answer d strand_cells scaffold_cells entries =
    figures_of (first_of (search_over_checks d strand_cells scaffold_cells entries)) zero (search (model_over d strand_cells scaffold_cells)).energy

-- the lent entries afterwards
abbrev pub search_over_entries : Design → List Float → List Float → List ℕ → List ℕ
search_over_entries d strand_cells scaffold_cells entries =
    entries_of (first_of (search_over_checks d strand_cells scaffold_cells entries)) entries (search (model_over d strand_cells scaffold_cells)).configuration

-- Demand 3 over tables: of every admitted design, with tables of its sizes and cells in range and an entry lent for each position, the lowest
-- configuration over these cells is written and its energy answered.
abbrev pub LowestOver : Design → List Float → List Float → List ℕ → List ℕ → Result KcalPerMol Refused → Type 0
LowestOver d strand_cells scaffold_cells entries written r =
    Admitted d
    → wrong_tables d strand_cells scaffold_cells ≡ false
    → bonds_out strand_cells scaffold_cells ≡ false
    → length entries ≡ positions d
    → LowestConfiguration (model_over d strand_cells scaffold_cells) written (energy_figures r).figure
