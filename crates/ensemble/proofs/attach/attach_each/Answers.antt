use mathlib.Core.Path.{◌∙◌}
use Prim.Native.Nat.{◌<◌}
use native.Mathlib.Omega.{arith}
use lib.ListN.{length, length-set}
use Rattle.ensemble.specs.inner.Entries.{table_bond}
use Rattle.ensemble.proofs.Attachments.{attach-more}
use Rattle.ensemble.proofs.attach.attach_each.Goals as goal

pub loop-friend-preserved : goal.loop-friend-preserved
loop-friend-preserved c =
    let left = c.args.left.now in
    let l = c.loop-friend in
    let x = c.from-right.result in
    let low : x < left.bonds.strands = rw c.from-right.ensures (c.requires.known l.friend-index c.loop-friend-test.true) in
    let r = c.least_for_friend-attached in
    let in-best : x < length l.best = omega arith in
    let in-choice : x < length l.choice = omega arith in
    record {
      wide = length-set l.best x r.result.energy ∙ l.invariant.wide;
      attached = attach-more (table_bond left.bonds.strands left.bonds.cells.now) left.options.now left.energies.now c.args.friends.now l.best l.choice x r.result in-best in-choice r.ensures.chosen
          l.friend-index c.from-right.ensures r.ensures.known l.invariant.attached;
    }
