-- Assumes nothing.
use lib.Ieee.{of_bits}
use Rattle.logarithm.specs.Near.{least_argument, most_argument}
use Rattle.logarithm.proofs.has_logarithm.Goals as goal

pub returns : goal.returns
unfolding least_argument most_argument of_bits
returns c = c.in_range.ensures
