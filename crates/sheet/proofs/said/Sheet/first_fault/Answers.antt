use mathlib.Core.Path.{sym, ◌∙◌}
use Rattle.sheet.specs.Place.{row_fault}
use Rattle.sheet.proofs.Placed.{fault_here, fault_later, fault_past}
use Rattle.sheet.proofs.said.Sheet.first_fault.Goals as goal

pub loop-row-preserved : goal.loop-row-preserved
loop-row-preserved c =
    let s = c.args.self.now in
    c.loop-row.invariant ∙ fault_later (row_fault s.text.now s.rows.now c.args.refusal) s.rows.now c.loop-row.row-index _ c.loop-row-test.true (sym c.row_fault.ensures ∙ c.in_default.is)

pub returns-in-Some : goal.returns-in-Some
returns-in-Some c =
    let s = c.args.self.now in
    sym (c.loop-row.invariant ∙ fault_here (row_fault s.text.now s.rows.now c.args.refusal) s.rows.now c.loop-row.row-index _ c.loop-row-test.true (sym c.row_fault.ensures ∙ c.in-Some.is))

pub returns : goal.returns
returns c =
    let s = c.args.self.now in
    sym (c.loop-row.invariant ∙ fault_past (row_fault s.text.now s.rows.now c.args.refusal) s.rows.now c.loop-row.row-index c.loop-row-test.false)
