-- Under a ceiling too only amounts of strands that are somewhere friends are read, and of a concentration its logarithm alone.
use Rattle.std.specs.Prelude.{◌≡◌, List, ℕ, Float}
use Rattle.design.specs.declared.Amounts.{Amounts}
use Rattle.design.specs.Design.{Design}
use Rattle.design.specs.Unread.{with_amounts, ReadAlike}
use Rattle.ceiling.specs.Answers.{ceiling_answer, ceiling_entries}

-- the call gives the same number and figure for two designs, and leaves the same entries
pub record CeilingUnread (d e : Design) : Type 0 where
  pub answers : (ceiling : Float) (entries : List ℕ) → ceiling_answer d ceiling entries ≡ ceiling_answer e ceiling entries
  pub written : (ceiling : Float) (entries : List ℕ) → ceiling_entries d ceiling entries ≡ ceiling_entries e ceiling entries

-- of every design whose amounts read as others
abbrev pub UnreadUnder : Type 0
UnreadUnder = (d : Design) (amounts : List Float) (given : Amounts) → ReadAlike d amounts given → CeilingUnread d (with_amounts d amounts given)
