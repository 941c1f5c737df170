-- `utils::strength` meets its contract: one operation after the other. Assumes nothing.
use lib.Ieee.{of_bits}
use Rattle.doubles.specs.Decimal.{nearest}
use Rattle.utils.specs.Paper.{initiation_dg}
use Rattle.utils.specs.Figures.{start_dg, start_ds}
use Rattle.utils.specs.Strength.{strength_at}
use Rattle.utils.proofs.strength.Goals as goal

pub returns : goal.returns
unfolding strength_at start_dg start_ds initiation_dg nearest of_bits
returns c = cc
