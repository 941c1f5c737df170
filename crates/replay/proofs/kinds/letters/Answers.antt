-- `replay::kinds::letters` meets its contract. Assumes nothing.
use Rattle.std.proofs.Common.{◌≡◌, ℕ, Bool, true, false, cond, ◌&&◌, length, ne_eqb, arith, List, [], ◌∷◌, ◌∙◌, sym, refl, ap}
use lib.Dec.{eqb}
use lib.Pointwise.{pointwise}
use Rattle.replay.specs.Kinds.{letters}
use Rattle.replay.proofs.Words.{as-word}
use Rattle.replay.proofs.kinds.letters.Goals as goal

dash : letters (45 ∷ []) ≡ []
unfolding letters
dash = refl

-- a word that is not `-`
no-dash : (w : List ℕ) → pointwise eqb w (45 ∷ []) ≡ false → letters w ≡ w
unfolding letters
no-dash [] e = refl
no-dash (x ∷ []) e = go (eqb x 45) e
  where
    go : (b : Bool) → (b && true) ≡ false → cond b [] (x ∷ []) ≡ (x ∷ [])
    go true e = cc
    go false e = refl
no-dash (x ∷ y ∷ w) e = simp (ne_eqb (length (x ∷ y ∷ w)) 1 (λ h. absurd (omega (arith, h))))

pub returns-then-eq : goal.returns-then-eq
returns-then-eq c = sym (ap letters (as-word c.eq.ensures c.if-eq.true ∙ c.as_slice.ensures) ∙ dash)

pub returns : goal.returns
returns c = sym (no-dash c.args.word.now (rw c.as_slice.ensures at (sym c.eq.ensures ∙ c.if-eq.false)))
