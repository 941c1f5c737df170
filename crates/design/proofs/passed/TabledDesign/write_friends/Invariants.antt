-- The invariant: the friends among the strands passed stand in front, and the rest is as it was. Assumes nothing.
use Prim.Native.Nat.{◌≤◌}
use lib.ListN.{drop}
use Rattle.lists.specs.Build.{up_to, keep}
use Rattle.lists.proofs.Front.{Front}
use Rattle.design.specs.Design.{befriends, friends_to, strands}
use Rattle.design.proofs.passed.TabledDesign.write_friends.Given as goal

abbrev pub invariant-loop-strand : goal.invariant-loop-strand
invariant-loop-strand l =
    let d = l.self in
    (l.count ≤ l.strand)
    × Front l.fn.entries (friends_to l.scaffold_glue d.glues d.dg d.ds (strands d)) (keep (befriends l.scaffold_glue d.glues d.dg d.ds) (drop l.strand (up_to (strands d)))) l.count l.entries
