-- Whether a stretch was found, and which. Assumes nothing.
use mathlib.Core.Path.{◌≡◌, refl}
use mathlib.Core.Bool.{Bool, true, false, cond}
use Prim.Native.Nat.{ℕ}
use native.Mathlib.Omega.{arith}
use Rattle.std.specs.Prelude.{None, Some}
use Rattle.deck.specs.Form.{something}
use Rattle.deck.specs.inner.Found.{found}
use Rattle.deck.specs.declared.form.Stretch.{Stretch}

pub none-found : (s : Stretch) → found s ≡ None → something s ≡ false
none-found s e = go (something s) refl e
  where
    go : (t : Bool) → something s ≡ t → cond t (Some s) None ≡ None → something s ≡ false
    go true d e = absurd (let z : ◌≡◌ {A = ℕ} 0 1 = cc in omega arith)
    go false d e = d

pub some-found : (s : Stretch) {here : Stretch} → found s ≡ Some here → (something s ≡ true) × (s ≡ here)
some-found s {here} e = go (something s) refl e
  where
    go : (t : Bool) → something s ≡ t → cond t (Some s) None ≡ Some here → (something s ≡ true) × (s ≡ here)
    go true d e = (d, cc)
    go false d e = absurd (let z : ◌≡◌ {A = ℕ} 0 1 = cc in omega arith)
