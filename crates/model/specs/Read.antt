-- What is read of a model: of the potentials, those of friends alone. proofs/Read.antt shows it of all that is defined over a model.
use Rattle.std.specs.Prelude.{◌≡◌, List, ℕ}
use Rattle.model.specs.Model.{Model, State, Friend}
use Rattle.model.specs.States.{states, count, state_at}
use Rattle.model.specs.Energy.{state_energy, chain_energy, chain_product, walk}
use Rattle.model.specs.Search.{search}
use Rattle.model.specs.Ring.{ring_energy, ring_search}

-- the same friends, bonds and RT, and the same potentials of strands that are friends somewhere
pub record SameRead (m n : Model) : Type 0 where
  pub friends : m.friends ≡ n.friends
  pub site : m.site ≡ n.site
  pub pair : m.pair ≡ n.pair
  pub rt : m.rt ≡ n.rt
  pub potential : (i strand : ℕ) → Friend m i strand → m.potential strand ≡ n.potential strand

-- all is the same: the states, their count and ranks, both energies of each state, the walk and the search
pub record Alike (m n : Model) : Type 0 where
  pub listed : states m ≡ states n
  pub counted : count m ≡ count n
  pub ranked : (rank : ℕ) → state_at m rank ≡ state_at n rank
  pub state_energies : (s : List ℕ) → State m s → state_energy m s ≡ state_energy n s
  pub chain_energies : (s : List ℕ) → State m s → chain_energy m s ≡ chain_energy n s
  pub products : (s : List ℕ) → State m s → chain_product m s ≡ chain_product n s
  pub walked : walk m ≡ walk n
  pub searched : search m ≡ search n

-- of every two models
abbrev pub OnlyFriendsRead : Type 0
OnlyFriendsRead = (m n : Model) → SameRead m n → Alike m n

-- and of rings: the ring energy of each state, and the search
pub record RingAlike (m n : Model) : Type 0 where
  pub energies : (s : List ℕ) → State m s → ring_energy m s ≡ ring_energy n s
  pub searched : ring_search m ≡ ring_search n

-- of every two models
abbrev pub OnlyFriendsReadByRings : Type 0
OnlyFriendsReadByRings = (m n : Model) → SameRead m n → RingAlike m n
