-- `utils::excess_in_range` meets its contract: the two ends are the doubles nearest to ±1,024. Assumes nothing.
use lib.Ieee.{of_bits, neg}
use Rattle.doubles.specs.Decimal.{nearest}
use Rattle.doubles.specs.Range.{in_range}
use Rattle.utils.specs.Strength.{excess_in_range}
use Rattle.utils.proofs.excess_in_range.Goals as goal

pub returns : goal.returns
unfolding excess_in_range in_range nearest of_bits neg
returns c = c.in_range.ensures
