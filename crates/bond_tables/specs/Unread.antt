-- Over lent tables too only amounts of strands that are somewhere friends are read, and of a concentration its logarithm alone.
use Rattle.std.specs.Prelude.{◌≡◌, List, ℕ, Float}
use Rattle.design.specs.declared.Amounts.{Amounts}
use Rattle.design.specs.Design.{Design}
use Rattle.design.specs.Unread.{with_amounts, ReadAlike}
use Rattle.bond_tables.specs.Answers.{fill_answer, filled_strands, filled_scaffold, energy_over_answer, count_over_answer, rank_over_answer, rank_over_entries, search_over_answer, search_over_entries}

-- each call gives the same number and figures for two designs, over the same cells, and leaves the same in what it is lent
pub record OverUnread (d e : Design) : Type 0 where
  pub fills : (t u : List Float) → fill_answer d t u ≡ fill_answer e t u
  pub strand_cells : (t u : List Float) → filled_strands d t u ≡ filled_strands e t u
  pub scaffold_cells : (t u : List Float) → filled_scaffold d t u ≡ filled_scaffold e t u
  pub energies : (t u : List Float) (s : List ℕ) → energy_over_answer d t u s ≡ energy_over_answer e t u s
  pub counts : (t u : List Float) → count_over_answer d t u ≡ count_over_answer e t u
  pub ranks : (t u : List Float) (rank : ℕ) (entries : List ℕ) → rank_over_answer d t u rank entries ≡ rank_over_answer e t u rank entries
  pub ranked_entries : (t u : List Float) (rank : ℕ) (entries : List ℕ) → rank_over_entries d t u rank entries ≡ rank_over_entries e t u rank entries
  pub searches : (t u : List Float) (entries : List ℕ) → search_over_answer d t u entries ≡ search_over_answer e t u entries
  pub searched_entries : (t u : List Float) (entries : List ℕ) → search_over_entries d t u entries ≡ search_over_entries e t u entries

-- of every design whose amounts read as others
abbrev pub UnreadOver : Type 0
UnreadOver = (d : Design) (amounts : List Float) (given : Amounts) → ReadAlike d amounts given → OverUnread d (with_amounts d amounts given)
