-- The front of a list: its beginnings, and a result laid over it.
use Rattle.std.specs.Prelude.{List, [], ◌∷◌, map, ◌++◌, length, drop}

module _ {A : Type 0} where
  -- its beginnings of 1, 2, .. elements, up to the whole
  unfoldable pub beginnings : List A → List (List A)
  beginnings [] = []
  beginnings (x ∷ xs) = (x ∷ []) ∷ map (x ∷◌) (beginnings xs)

-- the result, and past it what the list held
unfoldable pub over : {A : Type 0} → List A → List A → List A
over result xs = result ++ drop (length result) xs
