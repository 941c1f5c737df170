-- `deck::writing::lay` meets its contract. The loop's invariant: the words still to come, stored from here on, give the whole. There is room for
-- them, since a stretch has a position at least. Assumes nothing.
use Rattle.std.proofs.Common.{◌≡◌, ◌≤◌, ◌+◌, ℕ, List, length}
use Rattle.std.specs.Prelude.{map}
use lib.Seq.{sets}
use Rattle.deck.specs.Forms.{form_of}
use Rattle.deck.specs.Deck.{positions, stretches_of}
use Rattle.deck.specs.declared.DeckForm.{DeckForm}
use Rattle.deck.specs.declared.form.Stretch.{Stretch}
use Rattle.deck.proofs.Stretches.{Each, Some}
use Rattle.deck.proofs.writing.lay.Given as goal

-- the words of stretches
abbrev pub words_for : DeckForm → List Stretch → List ℕ
words_for form ss = map (form_of form).word_for ss

abbrev pub invariant-loop-stretch : goal.invariant-loop-stretch
invariant-loop-stretch l =
    let left = stretches_of (form_of l.stretch-iterator.form) l.stretch-iterator.left.now in
    let all = stretches_of (form_of l.fn.form) l.configuration in
    record {
      some : Each Some left;
      sum : positions left ≤ 128;
      size : length l.words ≡ 129;
      count : l.count + length left ≡ 1 + length all;
      stored : sets l.words l.count (words_for l.fn.form left) ≡ sets l.initial.words 1 (words_for l.fn.form all);
    }
