-- What the reading of lines and words goes by.
use Rattle.std.specs.Prelude.{Bool, not, List, ◌∷◌, ◌≡◌, ℕ, ◌+◌, ◌≤◌, ◌<◌, length}
use Rattle.statements.specs.Words.{is_newline, is_blank, words_in}
use Rattle.statements.specs.declared.words.Word.{Word}

-- any byte but a newline
abbrev pub not_newline : ℕ → Bool
not_newline byte = not (is_newline byte)

-- any byte but a blank
abbrev pub not_blank : ℕ → Bool
not_blank byte = not (is_blank byte)

-- the word does not leave the line
abbrev pub Inside : List ℕ → Word → Type 0
Inside line word = word.start + word.size ≤ length line

-- the first word from a place on
pub record IsNext (line : List ℕ) (at : ℕ) (word : Word) : Type 0 where
  pub on : at ≤ word.start
  pub some : 0 < word.size
  pub inside : Inside line word
  pub more : words_in line at ≡ word ∷ words_in line (word.start + word.size)
