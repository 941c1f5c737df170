-- Demand 3 over tables, of what the search's C function leaves behind.
use Rattle.std.specs.Prelude.{◌≡◌, List, ℕ, Float}
use Rattle.reply.specs.Number.{answered}
use Rattle.model.specs.LowestConfiguration.{LowestConfiguration}
use Rattle.design.specs.Design.{Design}
use Rattle.bond_tables.specs.Tables.{model_over}

-- where it answers 0, the configuration written and the energy told are lowest over the lent cells
abbrev pub LowestToldOver : Design → List Float → List Float → ℕ → List ℕ → Float → Type 0
LowestToldOver d strand_cells scaffold_cells r configuration energy =
    r ≡ answered → LowestConfiguration (model_over d strand_cells scaffold_cells) configuration energy
