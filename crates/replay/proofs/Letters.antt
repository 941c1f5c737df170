-- What is said of places, of decks and of builds. Assumes nothing.
use Rattle.std.proofs.Common.{◌≡◌, ℕ, List, subst}
use Rattle.replay.specs.Places.{SaysPlaces}
use Rattle.sdc1d_params.specs.Params.{Outcome}
use Rattle.replay.specs.Stored.{SaysDeck}
use Rattle.replay.specs.Built.{SaysBuilt}
use Rattle.replay.proofs.Values.{said-as}

-- the same said of equal words, numbers and places
pub places-as : {v w : List ℕ} {m n : ℕ} {ps qs : List ℕ} → v ≡ w → m ≡ n → ps ≡ qs → SaysPlaces v m ps → SaysPlaces w n qs
places-as p q r s = said-as SaysPlaces p q r s

-- and decks
pub deck-as : {v w : List ℕ} {m n : ℕ} {ps qs : List ℕ} → v ≡ w → m ≡ n → ps ≡ qs → SaysDeck v m ps → SaysDeck w n qs
deck-as p q r s = said-as SaysDeck p q r s

-- and what a build leaves
pub built-as : {v w : List ℕ} {o p : Outcome} {cell : ℕ} → v ≡ w → o ≡ p → SaysBuilt v o cell → SaysBuilt w p cell
built-as {v} {w} {o} {p} {cell} same left s = subst (λ (x : List ℕ). SaysBuilt x p cell) same (subst (λ (x : Outcome). SaysBuilt v x cell) left s)
