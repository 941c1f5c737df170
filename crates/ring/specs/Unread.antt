-- Of rings too only amounts of strands that are somewhere friends are read, and of a concentration its logarithm alone.
use Rattle.std.specs.Prelude.{◌≡◌, List, ℕ, Float}
use Rattle.design.specs.declared.Amounts.{Amounts}
use Rattle.design.specs.Design.{Design}
use Rattle.design.specs.Unread.{with_amounts, ReadAlike}
use Rattle.ring.specs.Answers.{ring_energy_answer, ring_search_answer, ring_search_entries}

-- both calls give the same number and figure for two designs, and the search leaves the same entries
pub record RingsUnread (d e : Design) : Type 0 where
  pub energies : (s : List ℕ) → ring_energy_answer d s ≡ ring_energy_answer e s
  pub searches : (entries : List ℕ) → ring_search_answer d entries ≡ ring_search_answer e entries
  pub searched_entries : (entries : List ℕ) → ring_search_entries d entries ≡ ring_search_entries e entries

-- of every design whose amounts read as others
abbrev pub UnreadByRings : Type 0
UnreadByRings = (d : Design) (amounts : List Float) (given : Amounts) → ReadAlike d amounts given → RingsUnread d (with_amounts d amounts given)
