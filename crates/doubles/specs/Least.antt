-- The least of several, by the double that each is compared as, and which of equals is taken.
use Rattle.std.specs.Prelude.{cond, List, [], ◌∷◌, ℕ, Float}
use Rattle.std.specs.Float.Ieee.{lt}
use Rattle.lists.specs.Fold.{foldl}

-- among equals the later: the one kept stays only where it is smaller
abbrev pub or_later : (ℕ → Float) → ℕ → ℕ → ℕ
or_later key kept x = cond (lt (key kept) (key x)) kept x

-- among equals the earlier: the next is taken only where it is smaller
abbrev pub or_earlier : (ℕ → Float) → ℕ → ℕ → ℕ
or_earlier key kept x = cond (lt (key x) (key kept)) x kept

-- each in turn against the one kept so far; 0 where there is none
unfoldable pub pick : (ℕ → ℕ → ℕ) → List ℕ → ℕ
unfolding foldl
pick better [] = 0
pick better (x ∷ xs) = foldl better x xs

-- the element with the least key, the last of equals
abbrev pub last_least : (ℕ → Float) → List ℕ → ℕ
last_least key xs = pick (or_later key) xs

-- the element with the least key, the first of equals
abbrev pub first_least : (ℕ → Float) → List ℕ → ℕ
first_least key xs = pick (or_earlier key) xs
