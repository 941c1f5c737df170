-- What holds where there is a value, and of equals. Assumes nothing.
use Rattle.std.proofs.Common.{◌≡◌, ℕ, List, Bool, true, false, sym, subst, refl}
use Rattle.std.specs.Prelude.{Option, Some, None, OnSome}
use Rattle.std.specs.Bool.{then_some}

-- what follows from what holds where there is a value holds there too
pub on-some : {A P Q : Type 0} (o : Option A) → OnSome o P → (P → Q) → OnSome o Q
on-some None h f = tt
on-some (Some x) h f = f h

-- a value where a test passed
pub on-then : {A P : Type 0} (b : Bool) (x : A) (o : Option A) → o ≡ then_some b x → (b ≡ true → P) → OnSome o P
on-then {A} {P} b x o e h = subst (λ (o : Option A). OnSome o P) (sym e) (go b h)
  where
    go : (b : Bool) → (b ≡ true → P) → OnSome (then_some b x) P
    go true h = h refl
    go false h = tt

-- what is said of words, a number and a list is said of equal ones
pub said-as : (S : List ℕ → ℕ → List ℕ → Type 0) → {v w : List ℕ} {m n : ℕ} {ps qs : List ℕ} → v ≡ w → m ≡ n → ps ≡ qs → S v m ps → S w n qs
said-as S {v} {w} {m} {n} {ps} {qs} p q r s =
    subst (λ (x : List ℕ). S x n qs) p (subst (λ (x : ℕ). S v x qs) q (subst (λ (x : List ℕ). S v m x) r s))
