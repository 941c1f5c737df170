-- Rows of weights as they are lent, and rows of terms as the pass keeps them, both by strand.
use Rattle.std.specs.Prelude.{◌≡◌, Bool, false, ◌||◌, ℕ, ℤ, pos, ◌+◌, ◌*◌, ◌^◌, ◌≤◌, ◌<◌, eqb, length, get_or, drop}
use mathlib.Core.List.{List, Memᴰ}
use Rattle.fractions.specs.declared.Weight.{Weight}
use Rattle.fractions.specs.Weight.{weight}
use Rattle.partition.specs.declared.Term.{Term}
use Rattle.partition.specs.Terms.{term, times}
use Rattle.partition.specs.Pass.{passed, before}
use Rattle.partition.specs.Sum.{zero_weight}
use Rattle.partition.specs.Weights.{Weights, weight_at, place_weight, pair_weight, unformed}
use Rattle.partition.specs.Summed as Summed
use Rattle.partition.specs.Summed.{sum_at, occupant_sum_at}
use Rattle.partition.specs.inner.Used.{Fit, Weighs}
use Rattle.partition_sums.specs.Layout.{options_at, options_of, weights_of}
use Rattle.partition_sums.specs.declared.lent.Lent.{Lent}

-- the weight of a strand in a row is outside its form
abbrev pub out_in : List ℕ → List ℤ → ℕ → Bool
out_in digits powers x = unformed (weight_at digits powers x)

-- the factor of an occupant of a position, over lent weights
abbrev pub place_term : Weights → ℕ → ℕ → Term
place_term w = Summed.place_term 400000 (place_weight w) (pair_weight w)

-- and of a left and a right occupant
abbrev pub pair_term : Weights → ℕ → ℕ → Term
pair_term w = Summed.pair_term 400000 (place_weight w) (pair_weight w)

-- the term of a strand in a row
abbrev pub row_term : List Term → ℕ → Term
row_term row x = get_or row x (term 0 0)

-- a pair's factor times the term of its right occupant
unfoldable pub joined : Weights → List Term → ℕ → ℕ → Term
unfolding times
joined w row left right = times (pair_term w left right) (row_term row right)

-- both are there
pub record Joins (w : Weights) (row : List Term) (left right : ℕ) : Type 0 where
  pub left-known : left < w.strands
  pub right-known : right < w.strands
  pub few : right < 64
  pub form : (eqb left 0 || eqb right 0) ≡ false → Weighs 400000 (pair_weight w left right)
  pub term : Fit (2 ^ 30) (row_term row right)

-- the row of a position holds the pass's terms
pub record Row (l : Lent) (i : ℕ) (row : List Term) : Type 0 where
  pub terms : (x : ℕ) → Memᴰ x (options_at l.options.rows.now l.options.counts.now i) → row_term row x ≡ passed (place_term (weights_of l.weights)) (pair_term (weights_of l.weights)) i (drop (i + 1) (options_of l.options)) x

-- ---- from the first position on

-- the term of all that can stand before an occupant of a position
abbrev pub before_term : Lent → ℕ → ℕ → Term
before_term l = before (place_term (weights_of l.weights)) (pair_term (weights_of l.weights)) (Summed.one_term 400000) (options_of l.options)

-- of all states that have it there
abbrev pub through_term : Lent → ℕ → ℕ → Term
through_term l = Summed.through_term 400000 (place_weight (weights_of l.weights)) (pair_weight (weights_of l.weights)) (options_of l.options)

-- the term of a left occupant with all that can stand before it, times its place's factor and the pair's
unfoldable pub led : Weights → List Term → ℕ → ℕ → ℕ → Term
unfolding times
led w row i right left = times (times (row_term row left) (place_term w i left)) (pair_term w left right)

-- all three are there
pub record Leads (w : Weights) (row : List Term) (i left right : ℕ) : Type 0 where
  pub left-known : left < w.strands
  pub right-known : right < w.strands
  pub few : left < 64
  pub place-form : eqb left 0 ≡ false → Weighs 400000 (place_weight w i left)
  pub form : (eqb left 0 || eqb right 0) ≡ false → Weighs 400000 (pair_weight w left right)
  pub term : Fit (2 ^ 30) (row_term row left)

-- the row of a position holds what can stand before each option
pub record Before (l : Lent) (i : ℕ) (row : List Term) : Type 0 where
  pub terms : (x : ℕ) → Memᴰ x (options_at l.options.rows.now l.options.counts.now i) → row_term row x ≡ before_term l i x

-- or the sum over the states that have it
pub record Through (l : Lent) (i : ℕ) (row : List Term) : Type 0 where
  pub terms : (x : ℕ) → Memᴰ x (options_at l.options.rows.now l.options.counts.now i) → row_term row x ≡ through_term l i x

-- a term as a cell holds it
abbrev pub celled_term : Term → Weight
celled_term t = weight t.digits (pos t.power)

-- the cells of the positions from the i-th on hold the pass's terms
pub record Stored (l : Lent) (i : ℕ) (digits : List ℕ) (powers : List ℤ) : Type 0 where
  pub terms :
      (j x : ℕ)
      → i ≤ j
      → j < length l.options.counts.now
      → Memᴰ x (options_at l.options.rows.now l.options.counts.now j)
      → weight_at digits powers (j * l.weights.strands + x) ≡ celled_term (passed (place_term (weights_of l.weights)) (pair_term (weights_of l.weights)) j (drop (j + 1) (options_of l.options)) x)

-- the cells of the positions before the i-th hold the sums over the states that have each strand there
abbrev pub SummedTo : Lent → ℕ → List ℕ → List ℤ → Type 0
SummedTo l i digits powers =
    (j x : ℕ)
    → j < i
    → x < l.weights.strands
    → weight_at digits powers (j * l.weights.strands + x) ≡ occupant_sum_at (weights_of l.weights) (options_of l.options) j x

-- and so many totals are those of the positions
abbrev pub TotalsTo : Lent → ℕ → List Weight → Type 0
TotalsTo l i totals = (j : ℕ) → j < i → get_or totals j zero_weight ≡ sum_at (weights_of l.weights) (options_of l.options) j
