-- What is filled has a row for each position, and what the search then finds is the lowest configuration. Assumes nothing.
use mathlib.Core.Path.{◌≡◌, ◌∙◌}
use mathlib.Core.List.{List}
use Prim.Native.Nat.{ℕ}
use lib.ListN.{length}
use lib.Ieee.{Float}
use Rattle.lists.proofs.Build.{length-tabulate}
use Rattle.model.specs.LowestConfiguration.{LowestConfiguration}
use Rattle.model.proofs.Search.{search-lowest}
use Rattle.ensemble.specs.Layout.{OptionRows, Found}
use Rattle.design.specs.Design.{Design, positions, strands, friends_of, model_of}
use Rattle.design.specs.Checks.{Admitted}
use Rattle.design.specs.Laws.{Doubles}
use Rattle.design.proofs.BoundLaws.{bounds-right}

-- demand 3
pub lowest-shown : (d : Design) → Admitted d → Doubles d → {written : List ℕ} {energy : Float} → Found (model_of d) written energy → LowestConfiguration (model_of d) written energy
lowest-shown d a doubles w = rw (w.shown, w.least) (search-lowest (model_of d) (strands d) (bounds-right d doubles a))

-- the options have a row for each position
pub placed : (d : Design) {rows counts : List ℕ} → OptionRows (model_of d) rows counts → length counts ≡ positions d
unfolding model_of
placed d o = o.positions ∙ length-tabulate (positions d) (friends_of d)
