-- What the fillers leave in lent rows and cells: the options of each position, the logarithms of concentrations, and the bonds of the cells that a search
-- reads.
use Rattle.std.specs.Prelude.{◌≡◌, Bool, cond, Result, Ok, Err, List, ◌++◌, ℕ, ◌+◌, ◌*◌, ◌-◌, ◌<◌, ◌≤◌, length, get_or, take, drop, Float}
use Rattle.std.specs.Float.{nan}
use Rattle.doubles.specs.Decimal.{zero}
use Rattle.reply.specs.declared.Refusal.{Refusal}
use Rattle.reply.specs.declared.Refusal.TheVariants.{TooDilute}
use Rattle.logarithm.specs.Figure.{ln_of}
use Rattle.logarithm.specs.Near.{has_logarithm}
use Rattle.model.specs.Model.{options_of}
use Rattle.ensemble.specs.Layout.{option_in}
use Rattle.design.specs.Design.{Design, strands, amount}

-- ---- options

-- so many strands stand in the first entries, and the rest is as it was
pub record Written (strands before : List ℕ) (count : ℕ) (after : List ℕ) : Type 0 where
  pub number : count ≡ length strands
  pub entries : after ≡ strands ++ drop (length strands) before

-- a row begins with the friends in order and 0 for empty, `count` options in all
pub record Optioned (friends row : List ℕ) (count : ℕ) : Type 0 where
  pub number : count ≡ length friends + 1
  pub few : count ≤ 64
  pub options : take count row ≡ options_of friends

-- ---- logarithms of concentrations

-- what is read off a concentration: its logarithm; where it has none, the strand of it is refused if it is somewhere a friend, and else nobody asks
abbrev pub logarithm_read : Bool → Float → Result Float Refusal
logarithm_read friend concentration = cond (has_logarithm concentration) (Ok (ln_of concentration)) (cond friend (Err TooDilute) (Ok zero))

-- what an entry holds where none is refused
abbrev pub logarithm_in : Float → Float
logarithm_in concentration = cond (has_logarithm concentration) (ln_of concentration) zero

-- the entry of each strand holds it
abbrev pub LogarithmsRead : Design → List Float → Type 0
LogarithmsRead d logarithms = (strand : ℕ) → strand < strands d → get_or logarithms strand zero ≡ logarithm_in (amount d strand)

-- ---- bonds, in cells of so many strands, row first

-- each of a row is one of so many strands
abbrev pub Among : ℕ → List ℕ → Type 0
Among strands row = (k : ℕ) → k < length row → get_or row k 0 < strands

-- what a call answers of a byte is a function's value there
abbrev pub GivesAt : (ℕ → Float → Type 0) → (ℕ → Float) → Type 0
GivesAt answers f = (column : ℕ) (answer : Float) → column < 256 → answers column answer → answer ≡ f column

-- and of two bytes
abbrev pub Gives : (ℕ → ℕ → Float → Type 0) → (ℕ → ℕ → Float) → Type 0
Gives answers f = (row column : ℕ) (answer : Float) → row < 256 → column < 256 → answers row column answer → answer ≡ f row column

-- the cell [row][column] holds its bond
abbrev pub Holds : (ℕ → ℕ → Float) → ℕ → List Float → ℕ → ℕ → Type 0
Holds bond strands cells row column = get_or cells (row * strands + column) nan ≡ bond row column

-- a cell that held its bond still does
pub record Kept (bond : ℕ → ℕ → Float) (strands : ℕ) (before after : List Float) : Type 0 where
  pub sized : length after ≡ length before
  pub still : (row column : ℕ) → column < strands → Holds bond strands before row column → Holds bond strands after row column

-- a row's cells at so many of the strands that are listed hold their bonds
abbrev pub HeldAt : (ℕ → ℕ → Float) → ℕ → List Float → ℕ → List ℕ → ℕ → Type 0
HeldAt bond strands cells row columns n = (k : ℕ) → k < n → Holds bond strands cells row (get_or columns k 0)

-- so of each of the first `rights` positions after the first: each option to its left, with each friend there
abbrev pub PairsHeld : (ℕ → ℕ → Float) → ℕ → List Float → List ℕ → List ℕ → ℕ → Type 0
PairsHeld bond strands cells rows counts rights =
    (i j k : ℕ) → i < rights → j < get_or counts i 0 → k + 1 < get_or counts (i + 1) 0 → Holds bond strands cells (option_in rows i j) (option_in rows (i + 1) k)

-- and where a ring closes: each option of the last position, with each friend of the first
abbrev pub ClosingHeld : (ℕ → ℕ → Float) → ℕ → List Float → List ℕ → List ℕ → Type 0
ClosingHeld bond strands cells rows counts =
    (j k : ℕ) → j < get_or counts (length counts - 1) 0 → k + 1 < get_or counts 0 0 → Holds bond strands cells (option_in rows (length counts - 1) j) (option_in rows 0 k)

-- and of each of the first `positions`: each friend there
abbrev pub SitesHeld : (ℕ → ℕ → Float) → ℕ → List Float → List ℕ → List ℕ → ℕ → Type 0
SitesHeld bond strands cells rows counts positions =
    (i k : ℕ) → i < positions → k + 1 < get_or counts i 0 → Holds bond strands cells i (option_in rows i k)
