-- The lines that the reader of a text has left, which are numbered from 1.
use Rattle.std.specs.Prelude.{List, [], ◌∷◌, ◌≡◌, ℕ, ◌+◌, take, drop, Option, MatchOption}
use Rattle.statements.specs.Words.{Line, lines_from, line_of}
use Rattle.statements.specs.declared.words.NumberedLine.{NumberedLine}
use Rattle.statements.specs.declared.words.Lines.{Lines}

-- the lines that are left
abbrev pub lines_left : Lines → List Line
lines_left lines = lines_from lines.at lines.at (drop lines.at lines.text.now)

-- the first of them, with what is left then
pub record IsFirst (before after : Lines) (line : NumberedLine) : Type 0 where
  pub end : ℕ
  pub first : lines_left before ≡ line_of line.start end ∷ lines_left after
  pub text : line.text.now ≡ take end before.text.now
  pub number : line.number ≡ before.number
  pub same : after.text.now ≡ before.text.now
  pub next : after.number ≡ before.number + 1

-- a call gave the first line that was left, or none where none was left
abbrev pub GivesLine : Lines → Option NumberedLine → Lines → Type 0
GivesLine before line after = MatchOption line ((lines_left before ≡ []) × (lines_left after ≡ [])) (IsFirst before after)
