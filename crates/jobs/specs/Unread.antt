-- Of a sheet's design too only amounts of strands that are somewhere friends are read, and of a concentration its logarithm alone.
use Rattle.std.specs.Prelude.{◌≡◌, List, Float}
use Rattle.design.specs.declared.Amounts.{Amounts}
use Rattle.design.specs.Design.{Design}
use Rattle.design.specs.Unread.{with_amounts, ReadAlike}
use Rattle.jobs.specs.Sheet.{Sheet, sheet_reply, sheet_numbers, sheet_energies, sheet_counts, sheet_stretches}

-- a sheet has the same reply on two designs, and all that is lent holds the same afterwards
pub record SheetUnread (d e : Design) : Type 0 where
  pub replies : (s : Sheet) → sheet_reply d s ≡ sheet_reply e s
  pub numbers : (s : Sheet) → sheet_numbers d s ≡ sheet_numbers e s
  pub energies : (s : Sheet) → sheet_energies d s ≡ sheet_energies e s
  pub counts : (s : Sheet) → sheet_counts d s ≡ sheet_counts e s
  pub stretches : (s : Sheet) → sheet_stretches d s ≡ sheet_stretches e s

-- of every design whose amounts read as others
abbrev pub UnreadBySheets : Type 0
UnreadBySheets = (d : Design) (amounts : List Float) (given : Amounts) → ReadAlike d amounts given → SheetUnread d (with_amounts d amounts given)
