-- A fold that looks at every element, and says whether one passes. Assumes nothing.
use mathlib.Core.Path.{◌≡◌, refl}
use mathlib.Core.Bool.{Bool, true, false, ◌||◌}
use mathlib.Core.List.{List, [], ◌∷◌}
use Rattle.std.specs.List.{fold}
use Rattle.lists.specs.Find.{any}

module _ {A : Type 0} (p : A → Bool) where
  from : (b : Bool) (xs : List A) → fold (λ a x. a || p x) b xs ≡ (b || any p xs)
  unfolding any
  from true [] = refl
  from false [] = refl
  from true (x ∷ xs) = from true xs
  from false (x ∷ xs) = from (p x) xs

  pub fold_any : (xs : List A) → fold (λ a x. a || p x) false xs ≡ any p xs
  fold_any xs = from false xs
