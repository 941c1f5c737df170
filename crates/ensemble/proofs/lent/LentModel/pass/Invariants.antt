-- The pass meets its contract. The invariant: the entries of the last position passed, and the left choices of all. Assumes nothing.
use mathlib.Core.Path.{◌≡◌}
use mathlib.Core.List.{List}
use Prim.Native.Nat.{ℕ, ◌≤◌}
use lib.ListN.{length}
use Rattle.model.specs.Model.{Model}
use Rattle.model.specs.Search.{options_at}
use Rattle.ensemble.specs.Lends.{Lends}
use Rattle.ensemble.specs.inner.Entries.{Known}
use Rattle.ensemble.specs.inner.Passed.{OptionsOf, Passed}
use Rattle.ensemble.proofs.lent.LentModel.pass.Given as goal

abbrev pub invariant-loop-position : goal.invariant-loop-position
invariant-loop-position l = record {
  few : length l.left ≤ 64;
  known : Known l.self.options.strands l.left;
  wide : length l.energies ≡ 64;
  passed : (m : Model) (options : ℕ → List ℕ) → Lends m l.self → OptionsOf m options → ((i : ℕ) → l.first ≤ i → options i ≡ options_at m i)
      → Passed m options l.first l.initial.left l.initial.energies l.initial.choices.friends l.initial.choices.empty → Passed m options l.position l.left l.energies l.choices.friends l.choices.empty;
}
