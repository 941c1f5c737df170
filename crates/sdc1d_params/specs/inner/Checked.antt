-- What the checks leave to the writing: the numbers of the scaffold's names, and the cells of the entries.
use Rattle.std.specs.Prelude.{List, map, ◌≡◌, ℕ, ◌<◌, Float, length, get_or}
use Rattle.sdc_common.specs.Lent.{glues_of}
use Rattle.sdc_common.specs.Spelled.{spelled_number}
use Rattle.sdc1d_params.specs.Entries.{Cell, cell, entry_at, entry_rows}
use Rattle.sdc1d_params.specs.inner.Cells.{InTables}
use Rattle.sdc1d_params.specs.Params.{Params, bases, cell_of_entry}

-- the numbers are those of the scaffold's names as spelled, the cells those of the entries, and all lie in the tables
pub record Checked (p : Params) (entries : List ℕ) (energies : List Float) (numbers : List ℕ) (cells : List Cell) : Type 0 where
  pub spelled : numbers ≡ map (spelled_number (bases p)) (glues_of p.text p.scaffold)
  pub small : (k : ℕ) → k < length numbers → get_or numbers k 0 < 64
  pub many : length cells ≡ entry_rows entries
  pub cells-at : (k : ℕ) → k < entry_rows entries → get_or cells k (cell 0 0) ≡ cell_of_entry p (entry_at entries energies k)
  pub inside : InTables cells
