use lib.Ieee.{neg, of_bits}
use Rattle.std.proofs.Common.{rules}
use Rattle.doubles.specs.Decimal.{nearest}
use Rattle.bond_tables.proofs.checks.cells_beyond.Goals as goal

pub returns : goal.returns
unfolding nearest neg of_bits
returns c = search rules
