-- Lists that pass the test of their sizes are a constraint with a list for each position. Assumes nothing.
use mathlib.Core.Path.{◌≡◌, sym, ◌∙◌}
use mathlib.Core.Bool.{Bool, false}
use Prim.Native.Nat.{ℕ}
use lib.ListN.{length}
use Rattle.partition_sums.specs.Layout.{Listed}
use Rattle.state_sums.specs.Sizes.{Lists, wrong_lists}
use Rattle.state_sums.specs.Answers.{constraint_of}
use Rattle.state_sums.proofs.Lent.{lists-listed}
use Rattle.state_sums.proofs.Told.{length-lists}

module _ (n : ℕ) (l : Lists) {wrong : Bool} (told : wrong ≡ wrong_lists n l) (none : wrong ≡ false) where
  pub fit : Listed n l.numbers l.starts l.lengths
  fit = lists-listed n l (sym told ∙ none)

  pub each : length (constraint_of l) ≡ n
  each = length-lists l ∙ fit.starting
