-- Going through a list from the left with a state.
use Rattle.std.specs.Prelude.{List, [], ◌∷◌}

-- the state after each element in turn
unfoldable pub foldl : {A S : Type 0} → (S → A → S) → S → List A → S
foldl step s [] = s
foldl step s (x ∷ xs) = foldl step (step s x) xs
