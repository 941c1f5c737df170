-- What is filled has a row for each position, and what the search then finds is the lowest ring. Assumes nothing.
use mathlib.Core.Path.{◌≡◌, ◌∙◌}
use mathlib.Core.List.{List}
use Prim.Native.Nat.{ℕ, suc, ◌-◌, ◌<◌}
use native.Mathlib.Omega.{arith}
use lib.ListN.{length}
use lib.Ieee.{Float}
use Rattle.lists.proofs.Build.{length-tabulate}
use Rattle.model.specs.Model as Model
use Rattle.model.specs.Ring.{LowestRing, ring_search}
use Rattle.model.proofs.Ring.{ring-lowest}
use Rattle.ensemble.specs.Layout.{OptionRows}
use Rattle.ensemble.specs.Ring.{FoundRing}
use Rattle.design.specs.Design.{Design, positions, strands, friends_of, model_of}
use Rattle.design.specs.Checks.{Admitted}
use Rattle.design.specs.Laws.{Doubles}
use Rattle.design.proofs.BoundLaws.{bounds-right}

-- the model has the design's positions
pub as_many : (d : Design) → Model.positions (model_of d) ≡ positions d
unfolding model_of
as_many d = length-tabulate (positions d) (friends_of d)

-- the options have a row for each position
pub placed : (d : Design) {rows counts : List ℕ} → OptionRows (model_of d) rows counts → length counts ≡ positions d
placed d o = o.positions ∙ as_many d

-- demand 3 of the definition
pub lowest-of : (d : Design) → Admitted d → Doubles d → 0 < positions d → LowestRing (model_of d) (ring_search (model_of d)).configuration (ring_search (model_of d)).energy
lowest-of d a doubles some =
    let last : positions d ≡ suc (positions d - 1) = omega arith in
    ring-lowest (model_of d) (strands d) (bounds-right d doubles a) (positions d - 1) (as_many d ∙ last)

-- and of what is found
pub lowest-shown : (d : Design) → Admitted d → Doubles d → 0 < positions d → {written : List ℕ} {energy : Float} → FoundRing (model_of d) written energy → LowestRing (model_of d) written energy
lowest-shown d a doubles some w = rw (w.shown, w.least) (lowest-of d a doubles some)
