-- Configurations in the words of a line.
use Rattle.std.specs.Prelude.{◌≡◌, ℕ, ◌+◌, ◌⊎◌, List, map}
use Rattle.replay.specs.Text.{up_to, past}
use Rattle.replay.specs.Says.{blank, ok, SaysRefused}
use Rattle.replay.specs.Kinds.{letters}

-- the byte of a place: `0` where it is empty, `1` where it holds strand 1
abbrev pub letter : ℕ → ℕ
letter strand = strand + 48

-- a word that is a configuration; one with no places is `-`
abbrev pub Places : List ℕ → List ℕ → Type 0
Places word places = letters word ≡ map letter places

-- `ok PLACES`
pub record SaysWritten (words : List ℕ) (number : ℕ) (places : List ℕ) : Type 0 where
  pub answered : number ≡ 0
  pub first : up_to blank words ≡ ok
  pub second : Places (past blank words) places

-- a call that writes a configuration: refused, or the places
abbrev pub SaysPlaces : List ℕ → ℕ → List ℕ → Type 0
SaysPlaces words number places = SaysRefused words number ⊎ SaysWritten words number places
