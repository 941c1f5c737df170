-- Lists of checks, taken apart and put together. Assumes nothing.
use mathlib.Core.Path.{◌≡◌, refl, ap, sym, ◌∙◌}
use mathlib.Core.Bool.{Bool, true, false}
use mathlib.Core.List.{List, [], ◌∷◌, ◌++◌}
use Prim.Native.Nat.{ℕ}
use native.Mathlib.Omega.{arith}
use Rattle.std.specs.Prelude.{Option, Ok}
use Rattle.reply.specs.Number.{Reply}
use Rattle.reply.specs.First.{Check, first_of, refused_if, ◌or_else◌}
use Rattle.reply.specs.declared.Refusal.{Refusal}

passes-step : (holds : Bool) (refusal : Refusal) (place : Option ℕ) (rest : Reply) → refused_if holds refusal place rest ≡ Ok tt → (holds ≡ false) × (rest ≡ Ok tt)
passes-step true refusal place rest e = absurd (let z : ◌≡◌ {A = ℕ} 0 1 = cc in omega arith)
passes-step false refusal place rest e = (refl, e)

-- where a list is admitted, its first check does not hold, and the rest is admitted
pub passes : (c : Check) (cs : List Check) → first_of (c ∷ cs) ≡ Ok tt → (c.holds ≡ false) × (first_of cs ≡ Ok tt)
passes c cs e = passes-step c.holds c.refusal c.place (first_of cs) e

-- no check of the list holds
abbrev pub NoneHolds : List Check → Type 0
NoneHolds [] = Unit
NoneHolds (c ∷ cs) = (c.holds ≡ false) × NoneHolds cs

-- where a list is admitted, none of its checks holds
pub none-holds : (cs : List Check) → first_of cs ≡ Ok tt → NoneHolds cs
none-holds [] e = tt
none-holds (c ∷ cs) e = let here = passes c cs e in (here.0, none-holds cs here.1)

-- and where two are, one after the other, both are
pub both-pass : (xs ys : List Check) → first_of (xs ++ ys) ≡ Ok tt → (first_of xs ≡ Ok tt) × (first_of ys ≡ Ok tt)
both-pass [] ys e = (refl, e)
both-pass (c ∷ xs) ys e =
    let here = passes c (xs ++ ys) e in
    let later = both-pass xs ys here.1 in
    (rw here.0 later.0, later.1)

joined_step : (holds : Bool) (refusal : Refusal) (place : Option ℕ) (r s t : Reply) → r or_else s ≡ t → refused_if holds refusal place r or_else s ≡ refused_if holds refusal place t
joined_step true refusal place r s t e = refl
joined_step false refusal place r s t e = e

-- replies put together are that of the lists, one after the other
pub joined : (xs ys : List Check) → first_of xs or_else first_of ys ≡ first_of (xs ++ ys)
joined [] ys = refl
joined (c ∷ xs) ys = joined_step c.holds c.refusal c.place _ _ _ (joined xs ys)

-- the same where the first list's reply is known
pub reply-append : (cs ds : List Check) {r : Reply} → first_of cs ≡ r → first_of (cs ++ ds) ≡ r or_else first_of ds
reply-append cs ds e = sym (joined cs ds) ∙ ap (λ (x : Reply). x or_else first_of ds) e
