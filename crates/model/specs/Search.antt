-- Document 01's search for the lowest configuration, the Rust's `mfe_configuration`. It is stated over the options of each position, in order, and over
-- the last step, a function of the last occupant and the sum. `search` is the one of a model: the options are the friends, then 0 for empty,
-- and the last step is the product with RT.
use Rattle.std.specs.Prelude.{cond, List, [], ◌∷◌, eqb}
use Prim.Native.Nat.{ℕ, zero, suc}
use Rattle.std.specs.Float.Ieee.{Float, add, sub, mul}
use Rattle.std.specs.Float.{binary64}
use Rattle.doubles.specs.Decimal as Decimal
use Rattle.doubles.specs.Least.{pick, last_least, first_least}
use Rattle.model.specs.Model.{Model, positions, friends_at, options_of}

-- ---- the entries: each position has one for each option, with an energy and a left choice

-- what a strand compares of a left entry: its energy plus the strand bond; empty compares the energy alone
abbrev pub with_strand_bond : Model → ℕ → ℕ → Float → Float
with_strand_bond m strand left energy = cond (eqb strand 0) energy (add binary64 energy (m.pair left strand))

-- then a strand adds the scaffold bond and subtracts the potential; empty adds nothing
abbrev pub with_scaffold_bond : Model → ℕ → ℕ → Float → Float
with_scaffold_bond m i strand energy = cond (eqb strand 0) energy (sub binary64 (add binary64 energy (m.site i strand)) (m.potential strand))

module _ (m : Model) (options : ℕ → List ℕ) where
  -- the least that a strand at a position compares, among equals the later; at position 0 there is no left term, and it is 0.0
  unfoldable pub least_left : ℕ → ℕ → Float
  unfolding pick
  least_left zero strand = Decimal.zero
  least_left (suc i) strand =
      let compared : ℕ → Float = λ left. with_strand_bond m strand left (with_scaffold_bond m i left (least_left i left)) in
      compared (last_least compared (options i))

  -- the energy of the entry of a strand at a position
  abbrev pub entry : ℕ → ℕ → Float
  entry i strand = with_scaffold_bond m i strand (least_left i strand)

  -- a left entry as a strand at the next position compares it
  abbrev pub compared : ℕ → ℕ → ℕ → Float
  compared i strand left = with_strand_bond m strand left (entry i left)

  -- the left choice of that entry; at position 0 there is none, and it is 0
  unfoldable pub left_choice : ℕ → ℕ → ℕ
  unfolding pick least_left
  left_choice zero strand = 0
  left_choice (suc i) strand = last_least (compared i strand) (options i)

-- ---- the configuration

-- the occupants up to a position whose occupant is known, before those to its right: each left one is a left choice
unfoldable pub traced : (ℕ → ℕ → ℕ) → ℕ → ℕ → List ℕ → List ℕ
traced left zero strand right = strand ∷ right
traced left (suc i) strand right = traced left i (left (suc i) strand) (strand ∷ right)

-- what a search gives
pub record SearchResult : Type 0 where
  pub configuration : List ℕ
  pub energy : Float

module _ (m : Model) (options : ℕ → List ℕ) (ending : ℕ → Float → Float) where
  -- an entry of the last position, after the last step
  abbrev pub product : ℕ → ℕ → Float
  product last strand = ending strand (entry m options last strand)

  -- the first smallest at the last position
  abbrev pub last_strand : ℕ → ℕ
  last_strand last = first_least (product last) (options last)

  -- Over a number of positions. With none, the configuration is empty and the energy 0.0.
  unfoldable pub search_over : ℕ → SearchResult
  unfolding pick least_left left_choice traced
  search_over zero = record { configuration = []; energy = Decimal.zero }
  search_over (suc last) = record {
    configuration = traced (left_choice m options) last (last_strand last) [];
    energy = product last (last_strand last);
  }

-- ---- of a model

-- the options of a position of a model
abbrev pub options_at : Model → ℕ → List ℕ
options_at m i = options_of (friends_at m i)

-- the last step of a model's search: the product with RT
abbrev pub times_rt : Model → ℕ → Float → Float
times_rt m strand sum = mul binary64 sum m.rt

-- document 01's search, over the friends and RT of a model
unfoldable pub search : Model → SearchResult
unfolding search_over
search m = search_over m (options_at m) (times_rt m) (positions m)
