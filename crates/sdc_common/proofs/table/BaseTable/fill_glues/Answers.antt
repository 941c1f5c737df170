use mathlib.Core.Path.{◌≡◌, ap, ◌∙◌}
use Prim.Native.Nat.{ℕ, ◌/◌}
use native.Mathlib.Omega.{arith}
use lib.ListN.{length}
use Rattle.lists.proofs.Counted.{stored, stored-none, stored_more}
use Rattle.sdc_common.specs.Lent.{glue_of}
use Rattle.sdc_common.specs.Numbers.{glue_number}
use Rattle.sdc_common.proofs.Fit.{number_of_row, numbers-stored}
use Rattle.sdc_common.proofs.table.BaseTable.fill_glues.Goals as goal

pub loop-i-init : goal.loop-i-init
loop-i-init c = let a = c.args in stored-none (number_of_row a.self.now a.text.now a.names.now) a.glues.now

pub loop-i-preserved : goal.loop-i-preserved
loop-i-preserved c =
    let a = c.args in
    let i = c.loop-i.i in
    let many = c.rows-row-items.ensures.len in
    let n = c.requires.glues_len in
    let here = c.number.ensures.value ∙ ap (glue_number a.self.now) (c.bytes.ensures ∙ ap (glue_of a.text.now) (c.from.ensures ∙ c.rows-row-items.ensures.by_index i (omega arith))) in
    rw c.loop-i.invariant (stored_more (number_of_row a.self.now a.text.now a.names.now) i a.glues.now c.number.result (omega arith) here)

pub returns : goal.returns
returns c =
    let a = c.args in
    let many = c.rows-row-items.ensures.len in
    let end : c.loop-i.i ≡ length a.names.now / 3 = omega arith in
    c.loop-i.invariant ∙ ap (λ (k : ℕ). stored (number_of_row a.self.now a.text.now a.names.now) k a.glues.now) end ∙ numbers-stored a.self.now a.text.now a.names.now a.glues.now c.requires.glues_len
