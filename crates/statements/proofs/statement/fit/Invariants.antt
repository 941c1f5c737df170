-- `statements::statement::fit` meets its contract: the words that are left, from the row so far, give the whole. Assumes nothing.
use mathlib.Core.Path.{◌≡◌}
use Prim.Native.Nat.{◌≤◌, ◌+◌}
use lib.ListN.{length}
use Rattle.statements.specs.Words.{words_in}
use Rattle.statements.specs.Statement.{blank, fit}
use Rattle.statements.proofs.statement.fit.Given as goal

abbrev pub invariant-loop-word : goal.invariant-loop-word
invariant-loop-word l =
    let rest = words_in l.word-iterator.line.now l.word-iterator.at in
    (l.place + length rest ≤ length l.line.text.now + 1)
    × (fit l.line.text.now l.key 0 (blank l.fn.kind l.line.number) (words_in l.line.text.now (l.key.start + l.key.size)) ≡ fit l.line.text.now l.key l.place l.row rest)
