-- Looking through a list for an element that passes a test.
use Rattle.std.specs.Prelude.{Bool, false, cond, ◌||◌, List, [], ◌∷◌, ℕ, suc}

module _ {A : Type 0} where
  -- some element passes the test
  unfoldable pub any : (A → Bool) → List A → Bool
  any p [] = false
  any p (x ∷ xs) = p x || any p xs

  -- the place of the first element that passes the test, and the length where none does
  unfoldable pub first_index : (A → Bool) → List A → ℕ
  first_index p [] = 0
  first_index p (x ∷ xs) = cond (p x) 0 (suc (first_index p xs))
