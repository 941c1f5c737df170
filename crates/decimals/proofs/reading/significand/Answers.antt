-- `decimals::reading::significand` meets its contract. Assumes nothing.
use Rattle.decimals.proofs.Worth.{read-both}
use Rattle.decimals.proofs.reading.significand.Goals as goal

pub returns : goal.returns
returns c = read-both _ c.args.whole.now c.args.fraction.now _ _ c.read_digits.ensures c.read_digits-2.ensures
