-- `utils::Dna::base` meets its contract: each letter is a base. Assumes nothing.
use Rattle.utils.proofs.Letters.{base-here}
use Rattle.utils.proofs.dna.Dna.base.Goals as goal

pub base-requires : goal.base-requires
base-requires c = base-here c.args.self.now.letters.now c.args.at c.args.self.now.bases c.requires
