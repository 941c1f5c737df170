-- The left choices of many friends meet their contract. The invariant: the friends passed have theirs. Assumes nothing.
use Rattle.ensemble.specs.inner.Entries.{table_bond, Attachments}
use Rattle.ensemble.proofs.sums.attach_all.Given as goal

abbrev pub invariant-loop-friend : goal.invariant-loop-friend
invariant-loop-friend l = Attachments (table_bond l.left.bonds.strands l.left.bonds.cells.now) l.left.options.now l.left.energies.now l.friends l.friend-index l.best l.choice
