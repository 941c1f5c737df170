-- Document 02's tables of bonds beside a design: what they hold, when lent ones are refused, and the model whose bonds are lent cells.
use Rattle.std.specs.Prelude.{Bool, not, ◌||◌, List, [], ◌++◌, ℕ, zero, suc, ◌+◌, ◌*◌, ◌<◌, T, eqb, length, get_or, Float}
use Rattle.std.specs.Float.{nan, binary64}
use Rattle.std.specs.Float.Ieee.{fits}
use Rattle.lists.specs.Build.{tabulate}
use Rattle.lists.specs.Find.{any}
use Rattle.doubles.specs.Decimal as Decimal
use Rattle.doubles.specs.Decimal.{nearest}
use Rattle.model.specs.Model.{Model}
use Rattle.design.specs.Design.{Design, positions, strands, strand_bond_in, scaffold_bond_in, model_of}
use Rattle.design.specs.Checks.{beyond}

-- ---- what they hold

-- so many rows of so many cells, row first: the cell [row][column] holds `f row column`
unfoldable pub table : ℕ → ℕ → (ℕ → ℕ → Float) → List Float
unfolding tabulate
table zero width f = []
table (suc rows) width f = tabulate width (f 0) ++ table rows width (λ row. f (suc row))

-- document 01's strand bonds, strands by strands: the cell [x][y] is that of x with y to the east of it, strand 0 included
abbrev pub strand_table : Design → List Float
strand_table d = table (strands d) (strands d) (strand_bond_in d)

-- document 01's scaffold bonds, positions by strands
abbrev pub scaffold_table : Design → List Float
scaffold_table d = table (positions d) (strands d) (scaffold_bond_in d)

-- ---- when they are refused

-- strands by strands cells, and positions by strands
abbrev pub wrong_tables : Design → List Float → List Float → Bool
wrong_tables d strand_cells scaffold_cells =
    not (eqb (length strand_cells) (strands d * strands d)) || not (eqb (length scaffold_cells) (positions d * strands d))

-- the most that a lent bond may be in size
abbrev pub most_bond : ℕ
most_bond = 80000

-- some lent cell is not finite, or above 80,000 in size: every cell is looked at, whether a state uses it or not
unfoldable pub bonds_out : List Float → List Float → Bool
unfolding any nearest
bonds_out strand_cells scaffold_cells = any (beyond most_bond) strand_cells || any (beyond most_bond) scaffold_cells

-- every cell of a lent table is a double
abbrev pub CellDoubles : List Float → Type 0
CellDoubles cells = (k : ℕ) → k < length cells → T (fits binary64 (get_or cells k nan))

-- ---- the model

-- the cell [row][column] of a table as wide as there are strands
abbrev pub bond_cell : ℕ → List Float → ℕ → ℕ → Float
bond_cell strands cells row column = get_or cells (row * strands + column) Decimal.zero

-- the model of a design with lent cells for its bonds, those with 0 included
unfoldable pub model_over : Design → List Float → List Float → Model
unfolding model_of
model_over d strand_cells scaffold_cells =
    record {
      friends = (model_of d).friends;
      site = bond_cell (strands d) scaffold_cells;
      pair = bond_cell (strands d) strand_cells;
      potential = (model_of d).potential;
      rt = (model_of d).rt;
    }
