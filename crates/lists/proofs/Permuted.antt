-- Lists that hold the same in another order: mathlib's permutations. Assumes nothing.
use mathlib.Core.Path.{◌≡◌, refl, ap, ap₂, subst, ◌∙◌}
use mathlib.Core.Bool.{Bool, true, false, ◌||◌}
use mathlib.Core.List.{List, map, Permᴰ}
use Prim.Native.Nat.{suc}
use lib.ListN.{length}
use Rattle.lists.specs.Find.{any}
use Rattle.lists.specs.Each.{Each}

or-exchange : (a b c : Bool) → (a || (b || c)) ≡ (b || (a || c))
or-exchange true true c = refl
or-exchange true false c = refl
or-exchange false b c = refl

module _ {A : Type 0} where
  pub length-permuted : {xs ys : List A} → Permᴰ xs ys → length xs ≡ length ys
  length-permuted Permᴰ.nil = refl
  length-permuted (Permᴰ.cons e d) = ap suc (length-permuted d)
  length-permuted (Permᴰ.swap e f) = refl
  length-permuted (Permᴰ.trans d g) = length-permuted d ∙ length-permuted g

  -- a test finds the same
  pub any-permuted : (p : A → Bool) {xs ys : List A} → Permᴰ xs ys → any p xs ≡ any p ys
  unfolding any
  any-permuted p Permᴰ.nil = refl
  any-permuted p (Permᴰ.cons e d) = ap₂ (λ (s t : Bool). s || t) (ap p e) (any-permuted p d)
  any-permuted p (Permᴰ.swap {a = a} {b = b} {l = l} e f) =
      or-exchange (p a) (p b) (any p l) ∙ ap₂ (λ (s t : Bool). s || (t || any p l)) (ap p f) (ap p e)
  any-permuted p (Permᴰ.trans d g) = any-permuted p d ∙ any-permuted p g

  -- what holds of each still does
  pub each-permuted : (P : A → Type 0) {xs ys : List A} → Permᴰ xs ys → Each P xs → Each P ys
  each-permuted P Permᴰ.nil h = tt
  each-permuted P (Permᴰ.cons e d) h = (subst P e h.0, each-permuted P d h.1)
  each-permuted P (Permᴰ.swap e f) h = (subst P f h.1.0, (subst P e h.0, h.1.1))
  each-permuted P (Permᴰ.trans d g) h = each-permuted P g (each-permuted P d h)

pub map-permuted : {A B : Type 0} (f : A → B) {xs ys : List A} → Permᴰ xs ys → Permᴰ (map f xs) (map f ys)
map-permuted f Permᴰ.nil = Permᴰ.nil
map-permuted f (Permᴰ.cons e d) = Permᴰ.cons (ap f e) (map-permuted f d)
map-permuted f (Permᴰ.swap e g) = Permᴰ.swap (ap f e) (ap f g)
map-permuted f (Permᴰ.trans d g) = Permᴰ.trans (map-permuted f d) (map-permuted f g)
