-- `settle::found::word_on` meets its contract: the lines that are left give the whole answer. Assumes nothing.
use mathlib.Core.Path.{◌≡◌}
use Rattle.statements.specs.inner.Lines.{lines_left}
use Rattle.statements.specs.Words.{lines_of}
use Rattle.settle.specs.Places.{word_on}
use Rattle.settle.proofs.found.word_on.Given as goal

abbrev pub invariant-loop-line : goal.invariant-loop-line
invariant-loop-line l =
    let left = l.line-iterator in
    (left.text.now ≡ l.text) × (word_on l.text l.number l.n 1 (lines_of l.text) ≡ word_on l.text l.number l.n left.number (lines_left left))
