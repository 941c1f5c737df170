use borrow.Author.Rules.{rules}
use mathlib.Core.List.{◌∷◌}
use mathlib.Core.Path.{◌≡◌, refl, ap, sym, ◌∙◌}
use lib.ListN.{length}
use native.Mathlib.Omega.{arith}
use Rattle.std.specs.Prelude.{Err}
use Rattle.statements.specs.Words.{words_in}
use Rattle.statements.proofs.Bytes.{few_words}
use Rattle.statements.proofs.Fitting.{fit-done, fit-fault, fit-more}
use Rattle.statements.proofs.statement.fit.Goals as goal

pub loop-word-init : goal.loop-word-init
loop-word-init c =
    let few = few_words c.args.line.now.text.now c.end.result in
    rw (c.into_iter-word-iterator.ensures.into_iter_gives, c.of-word-items.ensures.0, c.of-word-items.ensures.1) (omega (arith, few), rw (c.blank-row.ensures, c.end.ensures) refl)

pub returns-in_err-row : goal.returns-in_err-row
returns-in_err-row c =
    let l = c.loop-word in
    let line = c.args.line.now.text.now in
    let word = c.in-Some.word in
    let words = words_in l.word-iterator.line.now l.word-iterator.at in
    let rest = words_in c.next.new.self.line.now c.next.new.self.at in
    let out : c.from_residual.result ≡ Err c.in_err-row.field-0.0 = search rules in
    out
    ∙ sym (l.invariant.1
    ∙ fit-fault line c.args.key l.place l.row c.item_at.result c.item_at.ensures.value words word rest
    c.in-Some.ensures.steps c.bytes.result.now c.bytes.ensures c.accept.result c.accept.ensures c.in_err-row.field-0.0 c.in_err-row.was)

pub loop-word-preserved : goal.loop-word-preserved
loop-word-preserved c =
    let l = c.loop-word in
    let line = c.args.line.now.text.now in
    let word = c.in-Some.word in
    let words = words_in l.word-iterator.line.now l.word-iterator.at in
    let rest = words_in c.next.new.self.line.now c.next.new.self.at in
    let more : words ≡ word ∷ rest = c.in-Some.ensures.steps in
    let count = ap length more in (
      omega arith,
      l.invariant.1
          ∙ fit-more line c.args.key l.place l.row c.item_at.result c.item_at.ensures.value words word rest
          more c.bytes.result.now c.bytes.ensures c.accept.result c.accept.ensures c.in_ok-row.row c.in_ok-row.was,
    )

pub returns : goal.returns
returns c =
    let l = c.loop-word in
    c.close.ensures ∙ fit-done c.args.line.now.text.now c.args.key l.place l.row c.item_at-2.result c.item_at-2.ensures.value (words_in l.word-iterator.line.now l.word-iterator.at) c.in-None.ensures.steps.0 ∙ sym l.invariant.1
