-- `sdc_common::base_of` meets its contract: the stars are what the base lacks. Assumes nothing.
use native.Mathlib.Omega.{arith}
use Rattle.sdc_common.specs.Names.{stars_of}
use Rattle.sdc_common.proofs.Bases.{base-le}
use Rattle.sdc_common.proofs.Held.{base-is}
use Rattle.sdc_common.proofs.names.base_of.Goals as goal

pub slice_bounds-result-count : goal.slice_bounds-result-count
unfolding stars_of
slice_bounds-result-count c = omega (arith, c.stars_of.ensures)

pub returns : goal.returns
unfolding stars_of
returns c = let name = c.args.name.now in base-is name _ (omega (arith, c.stars_of.ensures, base-le name))
