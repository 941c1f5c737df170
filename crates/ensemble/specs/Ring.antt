-- What a ring reads of a model besides, and what its search gives.
use Rattle.std.specs.Prelude.{◌≡◌, List, ℕ, suc, ◌+◌, ◌-◌, ◌*◌, length, get_or, Float}
use Rattle.std.specs.Float.{nan}
use Rattle.model.specs.Model as Model
use Rattle.model.specs.Model.{Model, Friend, occupant}
use Rattle.model.specs.Ring.{ring_search}

-- The cells by which a ring is closed are the model's: strand bonds of the last position's friends with those of the first.
abbrev pub ClosingCells : Model → ℕ → List Float → Type 0
ClosingCells m strands strand_bonds =
    (last x y : ℕ) → Model.positions m ≡ suc last → Friend m last x → Friend m 0 y → get_or strand_bonds (x * strands + y) nan ≡ m.pair x y

-- configuration and energy are those of the model's search for rings
pub record FoundRing (m : Model) (configuration : List ℕ) (energy : Float) : Type 0 where
  pub shown : configuration ≡ (ring_search m).configuration
  pub least : energy ≡ (ring_search m).energy

-- the term by which a configuration's ring is closed is the model's, where both ends are occupied
abbrev pub ClosingTerm : Model → List ℕ → Float → Type 0
ClosingTerm m s closing = (occupant s 0 ≡ 0 → ⊥) → (occupant s (length s - 1) ≡ 0 → ⊥) → closing ≡ m.pair (occupant s (length s - 1)) (occupant s 0)
