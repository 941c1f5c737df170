-- Cells as the build finds them: from the numbers of an entry's names.
use Rattle.std.specs.Prelude.{Bool, true, false, cond, ◌&&◌, List, ℕ, ◌+◌, ◌-◌, ◌%◌, ◌<◌, eqb, Float, length, get_or, set}
use Rattle.lists.specs.Build.{tabulate}
use Rattle.sdc_common.specs.Names.{Name}
use Rattle.sdc_common.specs.Lent.{part_of, glue_of}
use Rattle.sdc_common.specs.declared.names.LentName.{LentName}
use Rattle.sdc1d_params.specs.Entries.{Cell, cell, cell_of, energy_of, entry_at, entry_rows, is_written}
use Rattle.sdc1d_params.specs.Tables.{Write, write_of, place_of}
use Rattle.sdc1d_params.specs.declared.Entry.{Entry}
use Rattle.sdc1d_params.specs.declared.LentParameters.{LentParameters}

-- the number of the base of a name that has this number: a base has the odd one of two
abbrev pub base_at : ℕ → ℕ
base_at n = cond (eqb (n % 2) 0) (n - 1) n

-- the cell of one name; a number of 0 is a name that is not known
abbrev pub one_cell : ℕ → Cell
one_cell n = cond (eqb n 0) (cell 0 0) (cell (base_at n) (base_at n + 1))

-- the cell on the other side of the diagonal
abbrev pub mirror : Cell → Cell
mirror c = cell c.column c.row

-- the first name of an entry, which is always there
abbrev pub first_of : Entry → LentName
first_of e = record { mark = 1; part = e.first }

-- the cell of an entry among these bases
abbrev pub cell_among : List Name → List ℕ → Entry → Cell
cell_among bases text e = cell_of bases (part_of text e.first.start e.first.size) (glue_of text e.second)

-- the cell of entry i among these bases
abbrev pub cell_at : List Name → List ℕ → List ℕ → List Float → ℕ → Cell
cell_at bases text numbers doubles i = cell_among bases text (entry_at numbers doubles i)

-- the cells of the entries of a lent parameter set, in order
abbrev pub cells_among : List Name → LentParameters → List Cell
cells_among bases l = tabulate (entry_rows l.entries.now) (cell_at bases l.text.now l.entries.now l.energies.now)

-- what entry i writes, from the cells
abbrev pub write_at : List ℕ → List ℕ → List Float → Float → Float → List Cell → ℕ → Write
write_at text numbers doubles penalty_dg penalty_ds cells i =
    write_of text penalty_dg penalty_ds (get_or cells i (cell 0 0)) (energy_of (entry_at numbers doubles i))

-- what they all write, in order
abbrev pub writes_at : LentParameters → List Cell → List Write
writes_at l cells = tabulate (entry_rows l.entries.now) (write_at l.text.now l.entries.now l.energies.now l.penalty.dg.0 l.penalty.ds.0 cells)

-- the cells lie in the tables
abbrev pub InTables : List Cell → Type 0
InTables cells = (k : ℕ) → k < length cells → ((get_or cells k (cell 0 0)).row < 64) × ((get_or cells k (cell 0 0)).column < 64)

-- ---- cells that were met, marked in a table of 64 by 64

-- a cell that is written and its mirror marked
unfoldable pub mark_both : List Bool → Cell → List Bool
mark_both seen c =
    cond (is_written c) (set (set seen (place_of c.row c.column) true) (place_of c.column c.row) true) seen

-- a cell that is written, and marked
unfoldable pub is_marked : List Bool → Cell → Bool
is_marked seen c = is_written c && get_or seen (place_of c.row c.column) false
