-- Lines and words of a text, which is a list of bytes. Lines end at byte 10. Blanks are space, tab and carriage return. A word that begins
-- with `#` begins a comment up to the line's end; a `#` further inside a word, and any other byte, is a byte of words like any letter.
use Rattle.std.specs.Prelude.{Bool, cond, ◌||◌, List, [], ◌∷◌, ℕ, ◌+◌, ◌-◌, eqb, ltb, take, drop}
use Rattle.std.proofs.Math.Option.{Option, none, some}
use Rattle.std.specs.Str.{bytes_eq}
use Rattle.statements.specs.declared.words.Word.{Word}

-- the byte that ends a line
abbrev pub is_newline : ℕ → Bool
is_newline byte = eqb byte 10

-- a byte between words
abbrev pub is_blank : ℕ → Bool
is_blank byte = eqb byte 32 || eqb byte 9 || eqb byte 13

-- the byte `#`
abbrev pub is_hash : ℕ → Bool
is_hash byte = eqb byte 35

-- ---- lines

-- the bytes of the text from `start` to before `end`
pub record Line : Type 0 where
  pub start : ℕ
  pub end : ℕ

-- a line out of its start and end
abbrev pub line_of : ℕ → ℕ → Line
line_of start end = record { start = start; end = end }

-- the lines of the bytes from `at` on, where the first of them began at `start`. After the last newline nothing is no line.
unfoldable pub lines_from : ℕ → ℕ → List ℕ → List Line
lines_from start at [] = cond (ltb start at) (line_of start at ∷ []) []
lines_from start at (byte ∷ rest) =
    cond (is_newline byte)
    (line_of start at ∷ lines_from (at + 1) (at + 1) rest)
    (lines_from start (at + 1) rest)

-- the lines of a text
abbrev pub lines_of : List ℕ → List Line
lines_of text = lines_from 0 0 text

-- the text up to a line's end: places in it are places in the text
abbrev pub up_to_end : List ℕ → Line → List ℕ
up_to_end text line = take line.end text

-- ---- words

-- a word out of its start and size
abbrev pub word_at : ℕ → ℕ → Word
word_at start size = record { start = start; size = size }

-- the words of the bytes from `at` on: between words (none), or in a word that began at some place
unfoldable pub scan : Option ℕ → ℕ → List ℕ → List Word
scan none at [] = []
scan none at (byte ∷ rest) = cond (is_blank byte) (scan none (at + 1) rest) (cond (is_hash byte) [] (scan (some at) (at + 1) rest))
scan (some start) at [] = word_at start (at - start) ∷ []
scan (some start) at (byte ∷ rest) =
    cond (is_blank byte) (word_at start (at - start) ∷ scan none (at + 1) rest) (scan (some start) (at + 1) rest)

-- the words of a line from a place on
unfoldable pub words_in : List ℕ → ℕ → List Word
words_in line at = scan none at (drop at line)

-- a word's bytes
unfoldable pub spelled : List ℕ → Word → List ℕ
spelled line word = take word.size (drop word.start line)

-- the same bytes
abbrev pub spells : List ℕ → List ℕ → Bool
spells word keyword = bytes_eq word keyword
