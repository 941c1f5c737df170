-- The writing of the state at a rank meets its contract. The invariant: the occupants of the positions passed stand in front, and those
-- left are the state of the later positions at the rank left. Assumes nothing.
use mathlib.Core.Path.{◌≡◌}
use Prim.Native.Nat.{◌<◌}
use lib.ListN.{length, drop}
use Rattle.lists.specs.Build.{product}
use Rattle.lists.proofs.Front.{Front}
use Rattle.model.specs.Model.{Model, options}
use Rattle.model.specs.States.{choice_at}
use Rattle.ensemble.specs.Layout.{OptionRows}
use Rattle.ensemble.proofs.states.write_state.Given as goal

abbrev pub invariant-loop-position : goal.invariant-loop-position
invariant-loop-position l = record {
  later-is : l.later ≡ product (drop l.position l.counts);
  below : l.left < l.later;
  sized : length l.entries ≡ length l.counts;
  front : (m : Model) → OptionRows m l.rows l.counts → Front l.initial.entries (choice_at (options m) l.rank) (choice_at (drop l.position (options m)) l.left) l.position l.entries;
}
