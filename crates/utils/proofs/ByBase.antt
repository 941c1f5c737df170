-- Tables that have an entry for each base, in the order of the bases' numbers. Assumes nothing.
use mathlib.Core.Path.{◌≡◌, refl}
use mathlib.Core.List.{List, []}
use Prim.Native.Nat.{ℕ}
use lib.ListN.{get_or}
use Rattle.utils.specs.Bases.{Base, index_of}
use Rattle.utils.specs.inner.Tables.{by_base, by_two, by_three}
use Rattle.utils.specs.declared.bases.DnaNucleotideBase.TheVariants.{A, T, G, C}

pub at_base : {X : Type 0} (f : Base → X) (d : X) (b : Base) → get_or (by_base f) (index_of b) d ≡ f b
at_base f d A = refl
at_base f d T = refl
at_base f d G = refl
at_base f d C = refl

module _ {X : Type 0} (d : X) where
  -- a table of two levels, and one of three, read at the numbers of bases
  pub at-bases : (f : Base → Base → X) (t : List (List X)) (a b : Base) (i j : ℕ) → t ≡ by_two f → i ≡ index_of a → j ≡ index_of b
      → get_or (get_or t i []) j d ≡ f a b
  at-bases f t a b i j e p q = rw (e, p, q, at_base (λ x. by_base (f x)) [] a, at_base (f a) d b)

  pub at-bases3 : (f : Base → Base → Base → X) (t : List (List (List X))) (a b c : Base) (i j k : ℕ) → t ≡ by_three f
      → i ≡ index_of a → j ≡ index_of b → k ≡ index_of c → get_or (get_or (get_or t i []) j []) k d ≡ f a b c
  at-bases3 f t a b c i j k e p q r = rw (e, p, at_base (λ x. by_two (f x)) [] a) (at-bases (f a) (by_two (f a)) b c j k refl q r)
