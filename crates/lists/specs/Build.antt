-- Lists made by a rule: of each number below a bound, of the elements that pass a test, and the product of numbers.
use Rattle.std.specs.Prelude.{Bool, cond, List, [], ◌∷◌, ℕ, zero, suc, ◌*◌}

module _ {A : Type 0} where
  -- f 0, f 1, .. up to f (n - 1)
  unfoldable pub tabulate : ℕ → (ℕ → A) → List A
  tabulate zero f = []
  tabulate (suc n) f = f zero ∷ tabulate n (λ k. f (suc k))

  -- the elements that pass the test, in their order
  unfoldable pub keep : (A → Bool) → List A → List A
  keep p [] = []
  keep p (x ∷ xs) = cond (p x) (x ∷ keep p xs) (keep p xs)

-- 0, 1, .. up to n - 1
abbrev pub up_to : ℕ → List ℕ
up_to n = tabulate n (λ k. k)

-- the numbers multiplied, 1 where there is none
unfoldable pub product : List ℕ → ℕ
product [] = 1
product (n ∷ ns) = n * product ns
