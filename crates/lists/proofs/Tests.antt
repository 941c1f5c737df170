-- Tests that are joined by `&&` and `||`, and tests that contradict each other. Assumes nothing.
use mathlib.Core.Path.{◌≡◌, refl, sym, ◌∙◌}
use mathlib.Core.Bool.{Bool, true, false, ◌&&◌, ◌||◌, false≢true, true≢false}

pub clash : {t : Bool} → t ≡ false → t ≡ true → ⊥
clash p q = false≢true (sym p ∙ q)

pub both : (a b : Bool) → (a && b) ≡ true → (a ≡ true) × (b ≡ true)
both true b e = (refl, e)
both false b e = absurd (false≢true e)

pub and_both : {a b : Bool} → a ≡ true → b ≡ true → (a && b) ≡ true
and_both p q = rw (p, q)

-- what a disjunction that fails tells
pub neither : (a b : Bool) → (a || b) ≡ false → (a ≡ false) × (b ≡ false)
neither true b e = absurd (true≢false e)
neither false b e = (refl, e)

-- the inner two of four change places
pub or-exchange : (a b c d : Bool) → ((a || b) || (c || d)) ≡ ((a || c) || (b || d))
or-exchange true b c d = refl
or-exchange false true true d = refl
or-exchange false true false d = refl
or-exchange false false c d = refl
