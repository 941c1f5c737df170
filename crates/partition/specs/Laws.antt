-- What is shown of the figures of the pass, of every model and all lent weights; proofs/Sums.antt shows it.
use Rattle.std.specs.Prelude.{◌≡◌, false, List, [], ℕ, ◌≤◌, ◌<◌, length, get_or}
use Rattle.model.specs.Model.{Model, positions, friends_at}
use Rattle.partition.specs.Sum.{FreeSum, ConstrainedSum}
use Rattle.partition.specs.Weights.{Weights, place_worth, pair_worth, weights_out}
use Rattle.partition.specs.Summed.{free_figure, constrained_figure}

-- the figures are document 02's sums
pub record Sums (m : Model) (w : Weights) : Type 0 where
  pub free : FreeSum (place_worth w) (pair_worth w) m (free_figure m w)
  -- of every constraint with a list for each position
  pub constrained : (lists : List (List ℕ)) → length lists ≡ positions m → ConstrainedSum (place_worth w) (pair_worth w) m lists (constrained_figure m w lists)
  -- lists that are all empty give the free sum's figure, as data
  pub unconstrained : (lists : List (List ℕ)) → length lists ≡ positions m → ((i : ℕ) → get_or lists i [] ≡ []) → constrained_figure m w lists ≡ free_figure m w

-- of 1 to 128 positions with at most 63 friends each, and weights of which none that a state uses is outside its form
abbrev pub SumsOfModels : Type 0
SumsOfModels =
    (m : Model) (w : Weights)
    → 0 < positions m
    → positions m ≤ 128
    → ((i : ℕ) → length (friends_at m i) ≤ 63)
    → weights_out m.friends w ≡ false
    → Sums m w
