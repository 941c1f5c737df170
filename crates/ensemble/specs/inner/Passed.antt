-- What the pass over the positions keeps: the entries of the last position passed, and the left choices of all. Over any options that are some of
-- the model's.
use Rattle.std.specs.Prelude.{◌≡◌, List, [], ℕ, zero, suc, ◌<◌, length, Float}
use mathlib.Core.List.{Memᴰ}
use Rattle.doubles.specs.Decimal as Decimal
use Rattle.model.specs.Model.{Model}
use Rattle.model.specs.Search.{entry, left_choice, options_at}
use Rattle.ensemble.specs.inner.Entries.{Energies, choice_in}

-- the options are of the model's, and there are some
pub record OptionsOf (m : Model) (options : ℕ → List ℕ) : Type 0 where
  pub own : (i x : ℕ) → Memᴰ x (options i) → Memᴰ x (options_at m i)
  pub some : (i : ℕ) → 0 < length (options i)

-- ---- the entries to the left of a position; at position 0 there are none

-- the options to the left of position i
abbrev pub left_options : (ℕ → List ℕ) → ℕ → List ℕ
left_options options zero = []
left_options options (suc i) = options i

-- the energy of an entry to the left of position i
abbrev pub left_entry : Model → (ℕ → List ℕ) → ℕ → ℕ → Float
left_entry m options zero x = Decimal.zero
left_entry m options (suc i) x = entry m options i x

-- strands and energies are the entries to the left of position i
pub record Left (m : Model) (options : ℕ → List ℕ) (i : ℕ) (strands : List ℕ) (energies : List Float) : Type 0 where
  pub are : strands ≡ left_options options i
  pub entries : Energies (left_entry m options i) strands (length strands) energies

-- ---- the left choices of the positions passed; at position 0 there is none

abbrev pub Table : Model → (ℕ → List ℕ) → ℕ → List (List ℕ) → List ℕ → Type 0
Table m options position choice empty = (i : ℕ) → i < position → 0 < i → (x : ℕ) → Memᴰ x (options i) → choice_in choice empty i x ≡ left_choice m options i x

-- ---- both

pub record Passed (m : Model) (options : ℕ → List ℕ) (position : ℕ) (left : List ℕ) (energies : List Float) (choice : List (List ℕ)) (empty : List ℕ) : Type 0 where
  pub entries : Left m options position left energies
  pub choices : Table m options position choice empty
