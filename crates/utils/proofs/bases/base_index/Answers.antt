-- `utils::base_index` meets its contract: the byte has the four numbers where the letters' bits point. Assumes nothing.
use Rattle.utils.specs.Bases.{base_of}
use Rattle.utils.proofs.Letters.{number-told, number-under}
use Rattle.utils.proofs.bases.base_index.Goals as goal

pub returns : goal.returns
returns c =
    let letter = c.args.letter in
    (number-told letter c.requires, rw (number-told letter c.requires) (number-under (base_of letter)))
