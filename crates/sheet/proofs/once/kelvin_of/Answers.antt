-- `sheet::once::kelvin_of` meets its contract: the constant is the double nearest to 273.15. Assumes nothing.
use lib.Ieee.{of_bits}
use Rattle.doubles.specs.Decimal.{nearest}
use Rattle.sheet.specs.Once.{kelvin_of}
use Rattle.sheet.proofs.once.kelvin_of.Goals as goal

pub returns : goal.returns
unfolding kelvin_of nearest of_bits
returns c = c.add.ensures
