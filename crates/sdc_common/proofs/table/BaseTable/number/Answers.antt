-- `sdc_common::number` meets its contract: the place of the base in the table gives two numbers, and the stars choose one. Assumes nothing.
use mathlib.Core.Path.{sym, ap, ap₂, ◌∙◌}
use denote.Ref.{Bor}
use Rattle.std.specs.Prelude.{Option}
use Rattle.lists.specs.Find.{first_index}
use Rattle.sdc_common.specs.Names.{Name, same_name}
use Rattle.sdc_common.specs.Numbers.{is_known, number_at, glue_number}
use Rattle.sdc_common.specs.inner.Table.{glue}
use Rattle.sdc_common.proofs.Held.{base-within, stars-left, number-none, number-some, number-known, number-unknown}
use Rattle.sdc_common.proofs.table.BaseTable.number.Goals as goal

pub returns-in_default-clause-value : goal.returns-in_default-clause-value
returns-in_default-clause-value c = number-none c.args.self.now ∙ ap (λ (n : Option (Bor Name)). glue_number c.args.self.now (glue n)) (sym c.in_default.is)

pub returns-in-None-clause-value : goal.returns-in-None-clause-value
returns-in-None-clause-value c =
    let bases = c.args.self.now in
    number-unknown bases c.in-Some.name.now (ap (is_known bases) (sym c.base_of-base.ensures) ∙ c.in-None.ensures.found) ∙ number-some bases c.in-Some.name.now
    ∙ ap (λ (n : Option (Bor Name)). glue_number bases (glue n)) (sym c.in-Some.is)

pub returns-in-Some-find-clause-value : goal.returns-in-Some-find-clause-value
returns-in-Some-find-clause-value c =
    let bases = c.args.self.now in
    let name = c.in-Some.name.now in
    let h = c.in-Some-find.ensures.found in
    ap₂ number_at (h.1 ∙ ap (λ (b : Name). first_index (same_name b) bases) c.base_of-base.ensures) (rw c.base_of-base.ensures (stars-left name))
    ∙ number-known bases name (ap (is_known bases) (sym c.base_of-base.ensures) ∙ h.0) ∙ number-some bases name
    ∙ ap (λ (n : Option (Bor Name)). glue_number bases (glue n)) (sym c.in-Some.is)

pub overflow_sub-result : goal.overflow_sub-result
overflow_sub-result c = rw c.base_of-base.ensures (base-within c.in-Some.name.now)
