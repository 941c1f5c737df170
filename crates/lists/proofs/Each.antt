-- What holds of each element of a list: of a part, of lists together, of lists made by a rule, and at the end of a fold. Assumes nothing.
use mathlib.Core.Path.{◌≡◌, refl}
use mathlib.Core.Bool.{Bool, false}
use mathlib.Core.List.{List, [], ◌∷◌, ◌++◌, map}
use Prim.Native.Nat.{ℕ, zero, suc, ◌<◌}
use native.Mathlib.Omega.{arith}
use lib.ListN.{get_or, take}
use Rattle.lists.specs.Find.{any}
use Rattle.lists.specs.Fold.{foldl}
use Rattle.lists.specs.Build.{tabulate}
use Rattle.lists.specs.Each.{Each}
use Rattle.lists.proofs.Tests.{neither}

module _ {A : Type 0} (P : A → Type 0) where
  pub each_append : (xs ys : List A) → Each P xs → Each P ys → Each P (xs ++ ys)
  each_append [] ys h k = k
  each_append (x ∷ xs) ys h k = (h.0, each_append xs ys h.1 k)

  pub each_take : (n : ℕ) (xs : List A) → Each P xs → Each P (take n xs)
  each_take zero [] h = tt
  each_take zero (x ∷ xs) h = tt
  each_take (suc n) [] h = tt
  each_take (suc n) (x ∷ xs) h = (h.0, each_take n xs h.1)

  pub each_all : ((x : A) → P x) → (xs : List A) → Each P xs
  each_all h [] = tt
  each_all h (x ∷ xs) = (h x, each_all h xs)

  -- at a place, or past the end
  pub each-get_or : (xs : List A) (d : A) → Each P xs → P d → (k : ℕ) → P (get_or xs k d)
  each-get_or [] d each h k = h
  each-get_or (x ∷ xs) d each h zero = each.0
  each-get_or (x ∷ xs) d each h (suc k) = each-get_or xs d each.1 h k

  pub each-tabulate : (n : ℕ) (f : ℕ → A) → ((k : ℕ) → k < n → P (f k)) → Each P (tabulate n f)
  unfolding tabulate
  each-tabulate zero f h = tt
  each-tabulate (suc n) f h = (h 0 (omega arith), each-tabulate n (λ k. f (suc k)) (λ k l. h (suc k) (omega arith)))

  pub each_map : {B : Type 0} (Q : B → Type 0) (f : A → B) → ((x : A) → P x → Q (f x)) → (xs : List A) → Each P xs → Each Q (map f xs)
  each_map Q f h [] each = tt
  each_map Q f h (x ∷ xs) each = (h x each.0, each_map Q f h xs each.1)

  -- what each step of a fold keeps holds at its end
  pub fold-keeps : {S : Type 0} (Q : S → Type 0) (step : S → A → S) → ((s : S) (x : A) → P x → Q s → Q (step s x)) → (xs : List A) → Each P xs → (s : S) → Q s → Q (foldl step s xs)
  unfolding foldl
  fold-keeps Q step keeps [] each s h = h
  fold-keeps Q step keeps (x ∷ xs) each s h = fold-keeps Q step keeps xs each.1 (step s x) (keeps s x each.0 h)

-- a test that none passes is one that each fails
module _ {A : Type 0} (p : A → Bool) where
  pub none_each : (xs : List A) → any p xs ≡ false → Each (λ x. p x ≡ false) xs
  unfolding any
  none_each [] e = tt
  none_each (x ∷ xs) e = let halves = neither (p x) (any p xs) e in (halves.0, none_each xs halves.1)

  pub each_none : (xs : List A) → Each (λ x. p x ≡ false) xs → any p xs ≡ false
  unfolding any
  each_none [] each = refl
  each_none (x ∷ xs) each = simp (each.0, each_none xs each.1)
