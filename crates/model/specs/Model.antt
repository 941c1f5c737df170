-- What states, counts, both energies and the search are read from. A design gives one model; any other source of friends and bonds
-- gives another, and the laws hold of it too.
use Rattle.std.specs.Prelude.{◌≡◌, ◌⊎◌, ℕ, ◌<◌, length, get_or, Float}
use mathlib.Core.List.{List, [], ◌∷◌, ◌++◌, map, Memᴰ}

-- A strand is a number, and 0 stands for an empty place.
pub record Model : Type 0 where
  -- the friends of each position
  pub friends : List (List ℕ)
  -- the scaffold bond of a position and a strand
  pub site : ℕ → ℕ → Float
  -- the strand bond of a left and a right strand
  pub pair : ℕ → ℕ → Float
  -- the logarithm of a strand's concentration
  pub potential : ℕ → Float
  pub rt : Float

-- how many positions there are
abbrev pub positions : Model → ℕ
positions m = length m.friends

-- the friends of a position; none past the last
abbrev pub friends_at : Model → ℕ → List ℕ
friends_at m i = get_or m.friends i []

-- a strand is a friend at a position
abbrev pub Friend : Model → ℕ → ℕ → Type 0
Friend m i strand = Memᴰ strand (friends_at m i)

-- what may stand at a place, in the order of the listing: its friends, then 0
abbrev pub options_of : List ℕ → List ℕ
options_of friends = friends ++ 0 ∷ []

-- the options of each position
abbrev pub options : Model → List (List ℕ)
options m = map options_of m.friends

-- what stands at a position; 0 past the end
abbrev pub occupant : List ℕ → ℕ → ℕ
occupant s i = get_or s i 0

-- Document 01's state: one friend or 0 (empty) at each position.
pub record State (m : Model) (s : List ℕ) : Type 0 where
  pub places : length s ≡ positions m
  pub occupants : (i : ℕ) → i < positions m → (occupant s i ≡ 0) ⊎ Friend m i (occupant s i)
