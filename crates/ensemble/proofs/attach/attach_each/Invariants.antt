-- The left choices of a position's friends, each on its own, meet their contract. The invariant: the friends passed have theirs. Assumes nothing.
use mathlib.Core.Path.{◌≡◌}
use lib.ListN.{length}
use Rattle.ensemble.specs.inner.Entries.{table_bond, Attachments}
use Rattle.ensemble.proofs.attach.attach_each.Given as goal

abbrev pub invariant-loop-friend : goal.invariant-loop-friend
invariant-loop-friend l = record {
  wide : length l.best ≡ 64;
  attached : Attachments (table_bond l.left.bonds.strands l.left.bonds.cells.now) l.left.options.now l.left.energies.now l.friends l.friend-index l.best l.choice;
}
