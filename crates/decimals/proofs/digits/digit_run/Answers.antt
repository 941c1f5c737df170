-- `decimals::digits::digit_run` meets its contract. Assumes nothing.
use Rattle.std.proofs.Common.{refl}
use Rattle.lists.proofs.Find.{first-le}
use Rattle.decimals.specs.Digits.{not_digit}
use Rattle.lists.proofs.Searches.{position_first}
use Rattle.decimals.proofs.digits.digit_run.Goals as goal

pub returns : goal.returns
returns c =
    let text = c.args.text.now in
    let other = not_digit c.args.base in
    rw (c.unwrap_or.ensures, c.first_other.ensures, position_first other text) (refl, first-le other text)
