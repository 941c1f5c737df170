-- Document 02's constraint: for each position a list of allowed occupants, 0 for empty.
use Rattle.std.specs.Prelude.{Bool, true, false, ◌&&◌, List, [], ◌∷◌, ℕ, eqb, length, get_or, take, drop}
use Rattle.lists.specs.Build.{tabulate}
use Rattle.lists.specs.Find.{any}

-- A list allows the numbers that stand in it, however often; an empty one leaves the place free.
unfoldable pub allows : List ℕ → ℕ → Bool
unfolding any
allows [] x = true
allows (y ∷ ys) x = any (eqb x) (y ∷ ys)

-- Each occupant of a state is allowed by the list of its position. There are as many lists as occupants.
unfoldable pub meets : List (List ℕ) → List ℕ → Bool
unfolding allows
meets [] [] = true
meets [] (x ∷ s) = false
meets (c ∷ cs) [] = false
meets (c ∷ cs) (x ∷ s) = allows c x && meets cs s

-- How lists are lent: all numbers in one slice, and for each position where its list starts and how long it is.
unfoldable pub list_at : List ℕ → List ℕ → List ℕ → ℕ → List ℕ
list_at numbers starts lengths i = take (get_or lengths i 0) (drop (get_or starts i 0) numbers)

-- the list of each position
unfoldable pub lists_of : List ℕ → List ℕ → List ℕ → List (List ℕ)
unfolding tabulate list_at
lists_of numbers starts lengths = tabulate (length starts) (list_at numbers starts lengths)
