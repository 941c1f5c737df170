-- What is to hold of the listing of a model's states; proofs/Listing.antt shows it of every model.
use Rattle.std.specs.Prelude.{◌≡◌, ℕ, ◌<◌, length, get_or}
use mathlib.Core.List.{List, [], Memᴰ}
use Rattle.lists.specs.Order.{Rising, Distinct}
use Rattle.model.specs.Model.{Model, State, Friend, friends_at}
use Rattle.model.specs.States.{states, count, state_at}

-- friends rise, and 0 is none of them
pub record Ordered (m : Model) : Type 0 where
  pub rising : (i : ℕ) → Rising (friends_at m i)
  pub not_null : (i : ℕ) → Friend m i 0 → ⊥

-- the listing is complete, in order, and counted right
pub record Listed (m : Model) : Type 0 where
  -- it has as many as the product of friends plus one
  pub size : length (states m) ≡ count m
  -- the state at a rank is the one at that place
  pub ranked : (rank : ℕ) → rank < count m → get_or (states m) rank [] ≡ state_at m rank
  -- each state is listed
  pub all : (s : List ℕ) → State m s → Memᴰ s (states m)
  -- and nothing else is
  pub only : (s : List ℕ) → Memᴰ s (states m) → State m s
  -- where friends are in order, none stands twice
  pub once : Ordered m → Distinct [] (states m)
