-- Refusal 1 of what a sum is lent beside a design: the weights, and the lists of a constraint.
use Rattle.std.specs.Prelude.{Bool, not, ◌||◌, List, ℕ, ◌-◌, ◌*◌, ltb, eqb, length, get_or}
use Rattle.std.specs.Borrow.{Bor}
use Rattle.lists.specs.Build.{up_to, tabulate}
use Rattle.lists.specs.Find.{any}
use Rattle.partition.specs.Weights.{Weights}
use Rattle.partition_sums.specs.Layout.{lent_weights}
use Rattle.state_sums.specs.declared.LentWeights.{LentWeights}
use Rattle.state_sums.specs.declared.LentLists.{LentLists}

-- the weights of so many strands out of what a call is lent
abbrev pub weights_lent : ℕ → LentWeights → Weights
weights_lent strands w = lent_weights strands w.place_digits w.place_powers w.pair_digits w.pair_powers

-- not one weight for each position and strand, or for each left and right strand; digits and exponents alike
abbrev pub wrong_cells : ℕ → Weights → Bool
wrong_cells positions w =
    not (eqb (length w.place_digits) (positions * w.strands))
    || (not (eqb (length w.place_powers) (positions * w.strands)) || (not (eqb (length w.pair_digits) (w.strands * w.strands)) || not (eqb (length w.pair_powers) (w.strands * w.strands))))

-- A constraint as it is lent: all numbers in one slice, and for each position where its list starts and how long it is.
pub record Lists : Type 0 where
  pub numbers : List ℕ
  pub starts : List ℕ
  pub lengths : List ℕ

-- those that a call is lent
abbrev pub lent_lists : Bor (List ℕ) → Bor (List ℕ) → Bor (List ℕ) → Lists
lent_lists numbers starts lengths = record { numbers = numbers.now; starts = starts.now; lengths = lengths.now }

-- those of a struct
abbrev pub lists_lent : LentLists → Lists
lists_lent l = lent_lists l.numbers l.starts l.lengths

-- a list starts or ends past so many numbers
abbrev pub list_outside : ℕ → ℕ → ℕ → Bool
list_outside many start length = ltb many start || ltb (many - start) length

-- the list of a position does
abbrev pub list_out : Lists → ℕ → Bool
list_out l i = list_outside (length l.numbers) (get_or l.starts i 0) (get_or l.lengths i 0)

-- not one list for each position, or one leaves the numbers
unfoldable pub wrong_lists : ℕ → Lists → Bool
unfolding any tabulate
wrong_lists positions l = not (eqb (length l.starts) positions) || (not (eqb (length l.lengths) positions) || any (list_out l) (up_to positions))
