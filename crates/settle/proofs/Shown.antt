-- Words of lines, line by line. Assumes nothing.
use mathlib.Core.Path.{◌≡◌, refl, ap, ◌∙◌}
use mathlib.Core.Bool.{cond}
use mathlib.Core.List.{List}
use Prim.Native.Nat.{ℕ}
use lib.Dec.{eqb}
use lib.ListN.{take}
use Rattle.std.specs.Prelude.{slice_get}
use Rattle.statements.specs.Words.{words_in}
use Rattle.statements.specs.inner.Lines.{lines_left, IsFirst}
use Rattle.statements.specs.declared.words.Lines.{Lines}
use Rattle.statements.specs.declared.words.NumberedLine.{NumberedLine}
use Rattle.settle.specs.Places.{word_on}

module _ (text : List ℕ) (before after : Lines) (line : NumberedLine) (t : before.text.now ≡ text) (f : IsFirst before after line) (number n : ℕ) where
  shown : line.text.now ≡ take f.end text
  shown = f.text ∙ ap (take f.end) t

  -- the first line that is left, and those after it
  pub word_step : word_on text number n before.number (lines_left before)
      ≡ cond (eqb line.number number) (slice_get (words_in line.text.now line.start) n) (word_on text number n after.number (lines_left after))
  unfolding word_on
  word_step = rw (f.first, f.next, f.number, shown) refl
