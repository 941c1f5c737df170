-- A summand whose power is lower by 31 leaves nothing of its digits. Assumes nothing.
use Rattle.partition.proofs.Cuts.{plus_lower-far}
use Rattle.partition_sums.proofs.terms.term_plus_lower.Goals as goal

pub returns-then-gap-ge31 : goal.returns-then-gap-ge31
returns-then-gap-ge31 c = plus_lower-far c.args.a c.args.b c.requires.normal c.requires.normal_2 c.if-gap-ge31.true
