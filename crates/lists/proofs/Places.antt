-- Lists and their places: what stands at one and past the end, made of each place of another, mapped, tested at each, stored into at one. Assumes nothing.
use mathlib.Core.Path.{◌≡◌, refl, ap₂, sym, ◌∙◌}
use mathlib.Core.List.{List, [], ◌∷◌, map, Memᴰ}
use mathlib.Core.Bool.{Bool, false, ◌||◌}
use Prim.Native.Nat.{ℕ, zero, suc, ◌<◌}
use native.Mathlib.Nat.{le_of_suc-le-suc, not-suc-le-zero}
use native.Mathlib.Omega.{arith}
use lib.ListN.{length, get_or, drop, set}
use lib.Seq.{ext_get_or}
use Rattle.lists.specs.Find.{any}
use Rattle.lists.specs.Build.{tabulate}
use Rattle.lists.proofs.Tests.{neither}
use Rattle.lists.proofs.Build.{length-tabulate, get_or-tabulate}

pub get_or-default : {A : Type 0} (xs : List A) (k : ℕ) (d e : A) → k < length xs → get_or xs k d ≡ get_or xs k e
get_or-default [] k d e h = absurd (not-suc-le-zero h)
get_or-default (x ∷ xs) zero d e h = refl
get_or-default (x ∷ xs) (suc k) d e h = get_or-default xs k d e (le_of_suc-le-suc h)

pub drop-map : {A B : Type 0} (f : A → B) (xs : List A) (i : ℕ) → drop i (map f xs) ≡ map f (drop i xs)
drop-map f xs zero = refl
drop-map f [] (suc i) = refl
drop-map f (x ∷ xs) (suc i) = drop-map f xs i

pub get_or-map-lt : {A B : Type 0} (f : A → B) (xs : List A) (i : ℕ) (d : A) (e : B) → i < length xs → get_or (map f xs) i e ≡ f (get_or xs i d)
get_or-map-lt f [] i d e h = absurd (not-suc-le-zero h)
get_or-map-lt f (x ∷ xs) zero d e h = refl
get_or-map-lt f (x ∷ xs) (suc i) d e h = get_or-map-lt f xs i d e (le_of_suc-le-suc h)

module _ {A : Type 0} where
  pub tabulate-places : {B : Type 0} (f : A → B) (d : A) (xs : List A) (g : ℕ → B) → ((k : ℕ) → k < length xs → g k ≡ f (get_or xs k d)) → tabulate (length xs) g ≡ map f xs
  unfolding tabulate
  tabulate-places f d [] g h = refl
  tabulate-places f d (x ∷ xs) g h = ap₂ ◌∷◌ (h 0 (omega arith)) (tabulate-places f d xs (λ k. g (suc k)) (λ k l. h (suc k) (omega arith)))

  -- a list is made of what stands at its places
  pub tabulate-get_or : (d : A) (n : ℕ) (xs : List A) → length xs ≡ n → tabulate n (λ i. get_or xs i d) ≡ xs
  tabulate-get_or d n xs e =
      ext_get_or d (tabulate n (λ i. get_or xs i d)) xs (length-tabulate n (λ i. get_or xs i d) ∙ sym e)
      (λ i h. get_or-tabulate n (λ i. get_or xs i d) d i (rw (length-tabulate n (λ i. get_or xs i d)) at h))

  pub mem-get_or : (d : A) (xs : List A) (i : ℕ) → i < length xs → Memᴰ (get_or xs i d) xs
  mem-get_or d [] i h = absurd (not-suc-le-zero h)
  mem-get_or d (x ∷ xs) zero h = Memᴰ.head refl
  mem-get_or d (x ∷ xs) (suc i) h = Memᴰ.tail (mem-get_or d xs i (le_of_suc-le-suc h))

  -- a test of each place, and one of each element
  pub any-places : {B : Type 0} (d : A) (p : B → Bool) (q : A → Bool) (xs : List A) (g : ℕ → B) → ((k : ℕ) → k < length xs → p (g k) ≡ q (get_or xs k d)) → any p (tabulate (length xs) g) ≡ any q xs
  unfolding any tabulate
  any-places d p q [] g h = refl
  any-places d p q (x ∷ xs) g h = ap₂ (λ (s t : Bool). s || t) (h 0 (omega arith)) (any-places d p q xs (λ k. g (suc k)) (λ k l. h (suc k) (omega arith)))

  -- where a test fails on each, and on what is stored, it still does
  pub any-set : (p : A → Bool) (xs : List A) (i : ℕ) (x : A) → any p xs ≡ false → p x ≡ false → any p (set xs i x) ≡ false
  unfolding any
  any-set p [] i x e h = refl
  any-set p (y ∷ ys) zero x e h = simp (h, (neither (p y) (any p ys) e).1)
  any-set p (y ∷ ys) (suc i) x e h = let halves = neither (p y) (any p ys) e in simp (halves.0, any-set p ys i x halves.1 h)
