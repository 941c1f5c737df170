-- The listing of the states, in the order of the Rust's `system_states`: friends in order, then 0, last position fastest; their count;
-- and the state at a rank. First over any options, a list for each position, then of a model.
use Rattle.std.specs.Prelude.{List, [], ◌∷◌, ◌++◌, map, ℕ, ◌+◌, ◌/◌, ◌%◌, length, get_or}
use Rattle.lists.specs.Build.{product}
use Rattle.model.specs.Model.{Model, options}

-- each of the heads in turn, before each of the tails
unfoldable pub each_before : List ℕ → List (List ℕ) → List (List ℕ)
each_before [] tails = []
each_before (x ∷ heads) tails = map (x ∷◌) tails ++ each_before heads tails

-- every way to take one option at each position, the last position fastest
unfoldable pub listing : List (List ℕ) → List (List ℕ)
unfolding each_before
listing [] = [] ∷ []
listing (here ∷ later) = each_before here (listing later)

-- how many ways there are
unfoldable pub choices : List (List ℕ) → ℕ
unfolding product
choices each = product (map length each)

-- the way at a rank: each option of the first position stands for as many ranks as there are ways at the later ones
unfoldable pub choice_at : List (List ℕ) → ℕ → List ℕ
unfolding choices
choice_at [] rank = []
choice_at (here ∷ later) rank = get_or here (rank / choices later) 0 ∷ choice_at later (rank % choices later)

-- all states, in order
abbrev pub states : Model → List (List ℕ)
states m = listing (options m)

-- a place is taken by one of its friends, or empty
abbrev pub friends_plus_one : List ℕ → ℕ
friends_plus_one friends = length friends + 1

-- the number of states: the product of friends plus one
unfoldable pub count : Model → ℕ
unfolding product
count m = product (map friends_plus_one m.friends)

-- the state at a rank, counted from 0
abbrev pub state_at : Model → ℕ → List ℕ
state_at m rank = choice_at (options m) rank
