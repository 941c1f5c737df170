-- `statements::rows::lay_positions` meets its contract: the words that are left, laid from here on, give the whole. Assumes nothing.
use mathlib.Core.Path.{◌≡◌}
use mathlib.Core.List.{map}
use Prim.Native.Nat.{◌+◌}
use lib.ListN.{length}
use lib.Seq.{sets}
use Rattle.statements.specs.Words.{words_in}
use Rattle.statements.specs.Rows.{position_row}
use Rattle.statements.proofs.rows.lay_positions.Given as goal

abbrev pub invariant-loop-word : goal.invariant-loop-word
invariant-loop-word l =
    let rest = words_in l.word-iterator.line.now l.word-iterator.at in
    (length l.rows ≡ length l.initial.rows) × (l.next + length rest ≡ l.i + length (words_in l.line.text.now l.at))
    × (sets l.rows l.next (map (position_row l.kind l.line.text.now l.line.number) rest) ≡ sets l.initial.rows l.i (map (position_row l.kind l.line.text.now l.line.number) (words_in l.line.text.now l.at)))
