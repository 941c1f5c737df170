use mathlib.Core.List.{◌∷◌}
use mathlib.Core.Path.{◌≡◌, ap, ◌∙◌}
use native.Mathlib.Omega.{arith}
use lib.ListN.{length, length-set}
use Rattle.statements.specs.Words.{words_in}
use Rattle.statements.specs.Rows.{position_row}
use Rattle.statements.proofs.Lines.{position-step}
use Rattle.statements.proofs.rows.lay_positions.Goals as goal

pub loop-word-preserved : goal.loop-word-preserved
unfolding position_row
loop-word-preserved c =
    let a = c.args in
    let l = c.loop-word in
    let word = c.in-Some.word in
    let words = words_in l.word-iterator.line.now l.word-iterator.at in
    let rest = words_in c.next.new.self.line.now c.next.new.self.at in
    let more : words ≡ word ∷ rest = c.in-Some.ensures.steps in
    let count = ap length more in
    let made : c.put.result ≡ position_row a.kind a.line.now.text.now a.line.now.number word = rw (c.put.ensures, c.glue_of.ensures, c.bytes.ensures, c.blank.ensures) in (
      length-set l.rows l.next c.put.result ∙ l.invariant.0,
      omega arith,
      position-step (position_row a.kind a.line.now.text.now a.line.now.number) words rest word more l.rows l.next c.put.result made ∙ l.invariant.2,
    )
