-- Over tables that were filled every call answers as it does over the design: the same number, place and figures, and the same entries.
use Rattle.std.specs.Prelude.{◌≡◌, false, List, ℕ, Float}
use Rattle.design.specs.Design.{Design}
use Rattle.design.specs.Answers.{state_energy_answer, count_answer, rank_answer, rank_entries}
use Rattle.design.specs.Laws.{Doubles}
use Rattle.mfe.specs.Answers.{search_answer, search_entries}
use Rattle.bond_tables.specs.Tables.{bonds_out}
use Rattle.bond_tables.specs.Answers.{fill_answer, filled_strands, filled_scaffold, energy_over_answer, count_over_answer, rank_over_answer, rank_over_entries, search_over_answer, search_over_entries}

-- the calls over lent tables, and those over the design
pub record OverAlike (d : Design) (strand_cells scaffold_cells : List Float) : Type 0 where
  -- no cell is out: a bond of an admitted design is at most (1,024 + 1,024 × 8) × 8 = 73,728 in size
  pub in_range : bonds_out strand_cells scaffold_cells ≡ false
  pub state_energies : (s : List ℕ) → energy_over_answer d strand_cells scaffold_cells s ≡ state_energy_answer d s
  pub counts : count_over_answer d strand_cells scaffold_cells ≡ count_answer d
  pub ranks : (rank : ℕ) (entries : List ℕ) → rank_over_answer d strand_cells scaffold_cells rank entries ≡ rank_answer d rank entries
  pub ranked_entries : (rank : ℕ) (entries : List ℕ) → rank_over_entries d strand_cells scaffold_cells rank entries ≡ rank_entries d rank entries
  pub searches : (entries : List ℕ) → search_over_answer d strand_cells scaffold_cells entries ≡ search_answer d entries
  pub searched_entries : (entries : List ℕ) → search_over_entries d strand_cells scaffold_cells entries ≡ search_entries d entries

-- wherever the fill answers, whatever was lent to it
abbrev pub FilledTables : Type 0
FilledTables =
    (d : Design) (strand_cells scaffold_cells : List Float)
    → Doubles d
    → (fill_answer d strand_cells scaffold_cells).number ≡ 0
    → OverAlike d (filled_strands d strand_cells scaffold_cells) (filled_scaffold d strand_cells scaffold_cells)
