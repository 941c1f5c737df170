-- How a model is lent to the code, and what the search gives: the options of each position, the cells of bonds that are read, and the terms of a
-- configuration's places. `Readable` and `Searchable` are what the code must be able to rely on; the others say which model is lent.
use Rattle.std.specs.Prelude.{◌≡◌, ℕ, ◌+◌, ◌*◌, ◌<◌, ◌≤◌, length, get_or, take, drop, Float}
use mathlib.Core.List.{List, Memᴰ}
use Rattle.std.specs.Float.{nan}
use Rattle.model.specs.Model as Model
use Rattle.model.specs.Model.{Model, Friend, occupant}
use Rattle.model.specs.Search.{options_at, search}
use Rattle.ensemble.specs.declared.energies.Terms.{Terms}

-- ---- options: rows of 64, a row for each position, and how many options each position has

-- a row for each count, and no count above 64
pub record Readable (rows counts : List ℕ) : Type 0 where
  pub sized : 64 * length counts ≤ length rows
  pub few : (i : ℕ) → i < length counts → get_or counts i 0 ≤ 64

-- the option with a number, at a position
abbrev pub option_in : List ℕ → ℕ → ℕ → ℕ
option_in rows i k = get_or rows (64 * i + k) 0

-- at most 128 positions and 64 strands; each position has an option, and each option is one of the strands
pub record Searchable (strands : ℕ) (rows counts : List ℕ) : Type 0 where
  pub readable : Readable rows counts
  pub short : length counts ≤ 128
  pub few : strands ≤ 64
  pub some : (i : ℕ) → i < length counts → 0 < get_or counts i 0
  pub known : (i k : ℕ) → i < length counts → k < get_or counts i 0 → option_in rows i k < strands

-- the options of a model: in the row of each position its friends in order, then 0 for empty
pub record OptionRows (m : Model) (rows counts : List ℕ) : Type 0 where
  pub positions : length counts ≡ Model.positions m
  pub sized : 64 * Model.positions m ≤ length rows
  pub few : (i : ℕ) → i < Model.positions m → get_or counts i 0 ≤ 64
  pub options : (i : ℕ) → i < Model.positions m → take (get_or counts i 0) (take 64 (drop (64 * i) rows)) ≡ options_at m i

-- ---- bonds: tables of so many strands, row first

-- The cells that a search reads are the model's: strand bonds of each option with the friends to its right, scaffold bonds and potentials of
-- friends. No other cell need be filled. Strand 0 is nowhere a friend.
pub record BondCells (m : Model) (strands : ℕ) (strand_bonds scaffold_bonds potentials : List Float) : Type 0 where
  pub not_null : (i : ℕ) → Friend m i 0 → ⊥
  pub pairs : (i x y : ℕ) → i + 1 < Model.positions m → Memᴰ x (options_at m i) → Friend m (i + 1) y → get_or strand_bonds (x * strands + y) nan ≡ m.pair x y
  pub sites : (i y : ℕ) → i < Model.positions m → Friend m i y → get_or scaffold_bonds (i * strands + y) nan ≡ m.site i y
  pub logs : (i y : ℕ) → i < Model.positions m → Friend m i y → get_or potentials y nan ≡ m.potential y

-- ---- the places of one configuration

-- the terms of a place
abbrev pub terms_at : List Terms → ℕ → Terms
terms_at terms i = get_or terms i (record { site = nan; pair = nan; potential = nan })

-- The terms of a configuration's places are the model's: the scaffold bond and the potential of each strand at its place, and the strand bond of
-- each place with its right neighbour, 0 included.
pub record PlaceTerms (m : Model) (s : List ℕ) (terms : List Terms) : Type 0 where
  pub site : (i : ℕ) → i < length s → (occupant s i ≡ 0 → ⊥) → (terms_at terms i).site ≡ m.site i (occupant s i)
  pub pair : (i : ℕ) → i + 1 < length s → (terms_at terms i).pair ≡ m.pair (occupant s i) (occupant s (i + 1))
  pub potential : (i : ℕ) → i < length s → (occupant s i ≡ 0 → ⊥) → (terms_at terms i).potential ≡ m.potential (occupant s i)

-- ---- what is found

-- configuration and energy are those of the model's search
pub record Found (m : Model) (configuration : List ℕ) (energy : Float) : Type 0 where
  pub shown : configuration ≡ (search m).configuration
  pub least : energy ≡ (search m).energy
