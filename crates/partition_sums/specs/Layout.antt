-- How options and weights are lent to the code. `Searchable` of crate `ensemble` says what the code must be able to rely on of the options; a model's
-- options are lent as `OptionRows` there says, and proofs/Options.antt has that `options_in` then gives them.
use Rattle.std.specs.Prelude.{◌≡◌, List, ℕ, ◌+◌, ◌*◌, ◌-◌, ◌≤◌, ◌<◌, ℤ, length, get_or, take, drop}
use Rattle.std.specs.Borrow.{Bor}
use Rattle.lists.specs.Build.{tabulate}
use Rattle.partition.specs.Weights.{Weights}
use Rattle.ensemble.specs.declared.options.Options.{Options}
use Rattle.partition_sums.specs.declared.weights.Weights as Lent

-- ---- options: rows of 64, a row for each position, and how many options each position has

-- the options of a position
abbrev pub options_at : List ℕ → List ℕ → ℕ → List ℕ
options_at rows counts i = take (get_or counts i 0) (drop (64 * i) rows)

-- the options of each position
unfoldable pub options_in : List ℕ → List ℕ → List (List ℕ)
unfolding tabulate
options_in rows counts = tabulate (length counts) (options_at rows counts)

-- the friends of a position, which come before 0
abbrev pub friends_at : List ℕ → List ℕ → ℕ → List ℕ
friends_at rows counts i = take (get_or counts i 0 - 1) (drop (64 * i) rows)

-- the friends of each position
unfoldable pub friends_in : List ℕ → List ℕ → List (List ℕ)
unfolding tabulate
friends_in rows counts = tabulate (length counts) (friends_at rows counts)

-- of options as a struct
abbrev pub options_of : Options → List (List ℕ)
options_of o = options_in o.rows.now o.counts.now

-- and its friends
abbrev pub friends_of : Options → List (List ℕ)
friends_of o = friends_in o.rows.now o.counts.now

-- ---- weights

-- the weights of so many strands that a call is lent
abbrev pub lent_weights : ℕ → Bor (List ℕ) → Bor (List ℤ) → Bor (List ℕ) → Bor (List ℤ) → Weights
lent_weights strands place_digits place_powers pair_digits pair_powers =
    record { strands = strands; place_digits = place_digits.now; place_powers = place_powers.now; pair_digits = pair_digits.now; pair_powers = pair_powers.now }

-- those of a struct
abbrev pub weights_of : Lent.Weights → Weights
weights_of w = lent_weights w.strands w.place_digits w.place_powers w.pair_digits w.pair_powers

-- there is a cell for each position and strand, and for each left and right strand
pub record Celled (positions : ℕ) (w : Weights) : Type 0 where
  pub place-digits : positions * w.strands ≤ length w.place_digits
  pub place-powers : positions * w.strands ≤ length w.place_powers
  pub pair-digits : w.strands * w.strands ≤ length w.pair_digits
  pub pair-powers : w.strands * w.strands ≤ length w.pair_powers

-- ---- constraints

-- a list for each position, within the numbers
pub record Listed (positions : ℕ) (numbers starts lengths : List ℕ) : Type 0 where
  pub starting : length starts ≡ positions
  pub long : length lengths ≡ positions
  pub within : (i : ℕ) → i < positions → get_or starts i 0 + get_or lengths i 0 ≤ length numbers
