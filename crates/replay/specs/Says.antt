-- What the words of a line say was answered.
use Rattle.std.specs.Prelude.{◌≡◌, ℕ, ◌⊎◌, List, [], ◌∷◌, ◌++◌}
use Rattle.replay.specs.Text.{up_to, past, hex_text, texts, Decimal}

-- a blank
abbrev pub blank : ℕ
blank = 32

-- `ok`
abbrev pub ok : List ℕ
ok = 111 ∷ 107 ∷ []

-- `refused`
abbrev pub refused : List ℕ
refused = 114 ∷ 101 ∷ 102 ∷ 117 ∷ 115 ∷ 101 ∷ 100 ∷ []

-- a blank and 16 hex digits
abbrev pub figure_text : ℕ → List ℕ
figure_text bits = blank ∷ hex_text bits

-- that of each figure
abbrev pub figures_text : List ℕ → List ℕ
figures_text figures = texts figure_text figures

-- `refused NUMBER`
pub record SaysRefused (words : List ℕ) (number : ℕ) : Type 0 where
  pub first : up_to blank words ≡ refused
  pub second : Decimal (past blank words) number

-- `ok FIGURE ..`
pub record SaysGiven (words : List ℕ) (number : ℕ) (figures : List ℕ) : Type 0 where
  pub answered : number ≡ 0
  pub text : words ≡ ok ++ figures_text figures

-- a call: refused, or its figures
abbrev pub Says : List ℕ → ℕ → List ℕ → Type 0
Says words number figures = SaysRefused words number ⊎ SaysGiven words number figures
