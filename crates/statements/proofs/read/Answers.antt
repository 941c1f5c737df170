-- `statements::read` meets its contract. Assumes nothing.
use borrow.Author.Rules.{rules}
use mathlib.Core.Path.{◌≡◌, sym, ◌∙◌}
use native.Mathlib.Omega.{arith}
use lib.ListN.{length}
use Rattle.std.specs.Prelude.{Err}
use Rattle.statements.specs.Words.{lines_of}
use Rattle.statements.specs.declared.ReadFault.TheVariants.{TooLong}
use Rattle.statements.proofs.Reading.{rows-counted, read-long, read-lines, rows-laid, rows-kept}
use Rattle.statements.proofs.read.Goals as goal

pub returns-then-text-gt-LONGEST : goal.returns-then-text-gt-LONGEST
returns-then-text-gt-LONGEST c =
    let a = c.args in
    let answer = read-long a.text.now a.rows.now c.if-text-gt-LONGEST.true in
    record { value = sym answer; rows_after = sym (rows-kept a.text.now a.rows.now TooLong answer) }

pub returns-in_err-count : goal.returns-in_err-count
returns-in_err-count c =
    let a = c.args in
    let fault = c.in_err-count.field-0.0 in
    let answer = read-lines a.text.now a.rows.now c.if-text-gt-LONGEST.false ∙ sym c.check.ensures ∙ c.in_err-count.was in
    let out : c.from_residual.result ≡ Err fault = search rules in
    record { value = out ∙ sym answer; rows_after = sym (rows-kept a.text.now a.rows.now fault answer) }

pub lay-requires : goal.lay-requires
lay-requires c =
    let a = c.args in
    let fit = rows-counted a.text.now (length a.rows.now) (lines_of a.text.now) 1 0 c.in_ok-count.count (omega arith) (sym c.check.ensures ∙ c.in_ok-count.was) in
    omega arith

pub returns : goal.returns
returns c =
    let a = c.args in
    let answer = read-lines a.text.now a.rows.now c.if-text-gt-LONGEST.false ∙ sym c.check.ensures ∙ c.in_ok-count.was in
    record { value = sym answer; rows_after = c.lay.ensures ∙ sym (rows-laid a.text.now a.rows.now c.in_ok-count.count answer) }
