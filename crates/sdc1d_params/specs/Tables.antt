-- The glue tables: 64 by 64, row first, a cell and its mirror set for each entry whose names are known.
use Rattle.std.specs.Prelude.{Bool, false, cond, not, ◌&&◌, ◌||◌, List, [], ◌∷◌, map, ℕ, ◌+◌, ◌*◌, Float, set, replicate}
use Rattle.std.specs.Float.{binary64}
use Rattle.std.specs.Float.Ieee.{add}
use Rattle.lists.specs.Find.{any}
use Rattle.lists.specs.Fold.{foldl}
use Rattle.doubles.specs.Decimal.{plus, minus, zero}
use Rattle.doubles.specs.Range.{in_range}
use Rattle.sdc1d_params.specs.Entries.{Cell, is_written, same_pair, entry_dg, entry_ds}
use Rattle.sdc1d_params.specs.declared.entries.GsOrSeq.{GsOrSeq}

-- what an entry writes, if its names are known: the junction penalty is added to both numbers
pub record Write : Type 0 where
  pub at : Cell
  pub dg : Float
  pub ds : Float

-- what an entry writes to its cell
unfoldable pub write_of : List ℕ → Float → Float → Cell → GsOrSeq → Write
write_of text penalty_dg penalty_ds c entry =
    record { at = c; dg = add binary64 (entry_dg text entry) penalty_dg; ds = add binary64 (entry_ds text entry) penalty_ds }

-- dG cells: ±1,024 kcal/mol
unfoldable pub dg_in_range : Float → Bool
dg_in_range dg = in_range (minus 1024 0) (plus 1024 0) dg

-- dS cells: ±8 kcal/mol/K
unfoldable pub ds_in_range : Float → Bool
ds_in_range ds = in_range (minus 8 0) (plus 8 0) ds

-- a sum that is written is out of range
unfoldable pub out_of_range : Write → Bool
out_of_range w = is_written w.at && (not (dg_in_range w.dg) || not (ds_in_range w.ds))

-- the cells that are written to
abbrev pub cells_of : List Write → List Cell
cells_of writes = map (λ (w : Write). w.at) writes

-- two entries name the same unordered pair of known names
unfoldable pub duplicated : List Cell → Bool
duplicated [] = false
duplicated (c ∷ cs) = any (same_pair c) cs || duplicated cs

-- the place of a cell
abbrev pub place_of : ℕ → ℕ → ℕ
place_of row column = row * 64 + column

-- the cell and its mirror set
unfoldable pub set_both : Cell → Float → List Float → List Float
set_both c v table =
    cond (is_written c) (set (set table (place_of c.row c.column) v) (place_of c.column c.row) v) table

-- the dG table after one entry more
abbrev pub write_dg : List Float → Write → List Float
write_dg table w = set_both w.at w.dg table

-- the dS table after one entry more
abbrev pub write_ds : List Float → Write → List Float
write_ds table w = set_both w.at w.ds table

-- unused cells are 0.0
unfoldable pub empty_table : List Float
empty_table = replicate 4096 zero

-- the dG table of all entries
unfoldable pub dg_table : List Write → List Float
dg_table writes = foldl write_dg empty_table writes

-- the dS table of all entries
unfoldable pub ds_table : List Write → List Float
ds_table writes = foldl write_ds empty_table writes
