-- The invariant: the rows of the positions passed are filled, and of each glue met one of them has the friends. Assumes nothing.
use mathlib.Core.Path.{◌≡◌}
use Prim.Native.Nat.{ℕ, ◌<◌}
use lib.ListN.{length}
use Rattle.design.specs.Design.{friends_of, friends_to, strands}
use Rattle.design.proofs.Optioned.{RowAt}
use Rattle.design.proofs.CopiedRows.{Met}
use Rattle.design.proofs.passed.TabledDesign.fill_options.Given as goal

abbrev pub invariant-loop-position : goal.invariant-loop-position
invariant-loop-position l = record {
  wide : length l.met ≡ 64;
  filled : (i : ℕ) → i < l.position → RowAt (friends_of l.self) l.rows l.counts i;
  met : Met (friends_of l.self) (λ glue. friends_to glue l.self.glues l.self.dg l.self.ds (strands l.self)) l.position l.met;
}
