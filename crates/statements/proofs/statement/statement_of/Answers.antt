-- `statements::statement::statement_of` meets its contract. Assumes nothing.
use borrow.Author.Rules.{rules}
use mathlib.Core.Path.{◌≡◌, sym, ◌∙◌}
use mathlib.Core.Bool.{true, false}
use Prim.Native.Nat.{◌+◌}
use Rattle.std.specs.Prelude.{None, Some, Ok, Err}
use Rattle.statements.specs.Words.{words_in}
use Rattle.statements.specs.Grammar.{is_position}
use Rattle.statements.specs.Statement.{blank, fit, statement_from, statement_of_words, statement_of}
use Rattle.statements.proofs.Lines.{by_kind}
use Rattle.statements.proofs.statement.statement_of.Goals as goal

pub returns-in_default : goal.returns-in_default
unfolding statement_of statement_of_words
returns-in_default c = rw c.in_default.ensures

pub returns-in_default-of : goal.returns-in_default-of
unfolding statement_from
returns-in_default-of c =
    let line = c.args.line.now.text.now in
    let key = c.in-Some.key in
    by_kind line c.args.line.now.start c.args.line.now.number key (words_in line (key.start + key.size)) c.bytes.result.now None c.in-Some.ensures.more c.bytes.ensures c.in_default-of.ensures

pub returns-then-is_position : goal.returns-then-is_position
unfolding statement_from
returns-then-is_position c =
    let line = c.args.line.now.text.now in
    let key = c.in-Some.key in
    let kind = c.in-Some-of.kind in
    let known = by_kind line c.args.line.now.start c.args.line.now.number key (words_in line (key.start + key.size)) c.bytes.result.now (Some kind) c.in-Some.ensures.more c.bytes.ensures c.in-Some-of.ensures in
    let position : is_position kind ≡ true = sym c.is_position.ensures ∙ c.if-is_position.true in
    rw c.end.ensures (simp position) ∙ known

pub returns-in_err-row : goal.returns-in_err-row
unfolding statement_from
returns-in_err-row c =
    let line = c.args.line.now.text.now in
    let key = c.in-Some.key in
    let kind = c.in-Some-of.kind in
    let words = words_in line (key.start + key.size) in
    let fault = c.in_err-row.field-0.0 in
    let known = by_kind line c.args.line.now.start c.args.line.now.number key words c.bytes.result.now (Some kind) c.in-Some.ensures.more c.bytes.ensures c.in-Some-of.ensures in
    let other : is_position kind ≡ false = sym c.is_position.ensures ∙ c.if-is_position.false in
    let none : fit line key 0 (blank kind c.args.line.now.number) words ≡ Err fault = sym c.fit.ensures ∙ c.in_err-row.was in
    let out : c.from_residual.result ≡ Err fault = search rules in
    out ∙ (simp (other, none)) ∙ known

pub returns : goal.returns
unfolding statement_from
returns c =
    let line = c.args.line.now.text.now in
    let key = c.in-Some.key in
    let kind = c.in-Some-of.kind in
    let words = words_in line (key.start + key.size) in
    let known = by_kind line c.args.line.now.start c.args.line.now.number key words c.bytes.result.now (Some kind) c.in-Some.ensures.more c.bytes.ensures c.in-Some-of.ensures in
    let other : is_position kind ≡ false = sym c.is_position.ensures ∙ c.if-is_position.false in
    let whole : fit line key 0 (blank kind c.args.line.now.number) words ≡ Ok c.in_ok-row.row = sym c.fit.ensures ∙ c.in_ok-row.was in
    (simp (other, whole)) ∙ known
