-- What a word was read as, said of the word that it is, and words that `==` finds equal. Assumes nothing.
use Rattle.std.proofs.Common.{◌≡◌, ℕ, List, Bool, true, false, not, refl, subst, sym, ◌∙◌}
use lib.Dec.{eqb}
use lib.Pointwise.{pointwise, bytes_decides}
use Rattle.replay.specs.Text.{Decimal}

pub as-decimal : {v w : List ℕ} {x : ℕ} → v ≡ w → Decimal v x → Decimal w x
as-decimal {v} {w} {x} same h = subst (λ (l : List ℕ). Decimal l x) same h

pub as-word : {v w : List ℕ} {b : Bool} → b ≡ pointwise eqb v w → b ≡ true → v ≡ w
as-word {v} {w} e is = (bytes_decides v w).0 (sym e ∙ is)

-- the same of `!=`
pub as-word-ne : {v w : List ℕ} {b : Bool} → b ≡ not (pointwise eqb v w) → b ≡ false → v ≡ w
as-word-ne {v} {w} e is = (bytes_decides v w).0 (go (pointwise eqb v w) (sym e ∙ is))
  where
    go : (t : Bool) → not t ≡ false → t ≡ true
    go true h = refl
    go false h = cc
