use borrow.Author.Rules.{rules}
use mathlib.Core.Path.{◌≡◌, refl, sym, ap, ◌∙◌}
use mathlib.Core.Bool.{true, false, not}
use mathlib.Core.List.{List, []}
use denote.Ref.{Bor}
use Rattle.std.specs.Prelude.{Option, None, Some, Ok, Err}
use Rattle.std.specs.Option.{is_some, option_copied}
use Rattle.statements.specs.declared.statement.Row.{Row}
use Rattle.sheet.specs.Faults.{fault_from, counts_of, counts_if, sheet_answer}
use Rattle.sheet.specs.declared.faults.SheetFault.TheVariants.{NoAmbient}
use Rattle.sheet.proofs.Faulty.{fault-here, fault-later, fault-past}
use Rattle.sheet.proofs.faults.check.Goals as goal

pub loop-i-preserved : goal.loop-i-preserved
loop-i-preserved c =
    let i = c.loop-i.i in
    c.loop-i.invariant ∙ fault-later c.args.text.now c.args.rows.now i _ c.loop-i-test.true (sym c.check_row.ensures ∙ c.in_ok-check_row.was)

pub returns-in_err-check_row : goal.returns-in_err-check_row
unfolding sheet_answer
returns-in_err-check_row c =
    let i = c.loop-i.i in
    let fault = c.in_err-check_row.field-0.0 in
    let first : fault_from c.args.text.now [] c.args.rows.now ≡ Err fault =
    c.loop-i.invariant ∙ fault-here c.args.text.now c.args.rows.now i _ c.loop-i-test.true fault (sym c.check_row.ensures ∙ c.in_err-check_row.was) in
    let out : c.from_residual.result ≡ Err fault = search rules in
    out ∙ rw first

missing : (rows : List Row) (r : Option (Bor Row)) → is_some r ≡ false → counts_if (option_copied r) rows ≡ Err NoAmbient
missing rows None e = refl
missing rows (Some row) e = cc

given : (rows : List Row) (r : Option (Bor Row)) → is_some r ≡ true → counts_if (option_copied r) rows ≡ Ok (counts_of rows)
given rows None e = cc
given rows (Some row) e = refl

pub returns-then-is_none : goal.returns-then-is_none
unfolding sheet_answer
returns-then-is_none c =
    let rows = c.args.rows.now in
    let sound = c.loop-i.invariant ∙ fault-past c.args.text.now rows c.loop-i.i c.loop-i-test.false in
    rw (sound, ← c.first_of.ensures) (sym (missing rows c.first_of.result (c.is_none.ensures ∙ ap not c.if-is_none.true)))

pub returns : goal.returns
unfolding sheet_answer
returns c =
    let rows = c.args.rows.now in
    let sound = c.loop-i.invariant ∙ fault-past c.args.text.now rows c.loop-i.i c.loop-i-test.false in
    rw (c.count_of.ensures, c.count_of-2.ensures, c.count_of-3.ensures, sound, ← c.first_of.ensures) (sym (given rows c.first_of.result (c.is_none.ensures ∙ ap not c.if-is_none.false)))
