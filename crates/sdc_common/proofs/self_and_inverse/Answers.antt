-- `sdc_common::self_and_inverse` meets its contract: the part of the text is the name as spelled. Assumes nothing.
use mathlib.Core.Path.{sym, ap, ◌∙◌}
use Rattle.reply.specs.declared.Refusal.TheVariants.{WrongSize}
use Rattle.sdc_common.specs.Names.{stars_of}
use Rattle.sdc_common.specs.Calls.{self_and_inverse}
use Rattle.reply.proofs.Asked.{admits, exits}
use Rattle.sdc_common.proofs.Held.{within, named, stars-within}
use Rattle.sdc_common.proofs.self_and_inverse.Goals as goal

pub returns-in_err-refused_if : goal.returns-in_err-refused_if
unfolding self_and_inverse
returns-in_err-refused_if c =
    let q = exits c.from_residual.result WrongSize c.is_unfit_name.result _ c.from_residual.ensures.1 c.in_err-refused_if.ensures in
    rw (q.1, ← c.is_unfit_name.ensures, q.0)

pub bytes-requires : goal.bytes-requires
bytes-requires c =
    let a = c.args in
    within a.text.now a.name.start a.name.size (sym c.is_unfit_name.ensures ∙ admits WrongSize _ c.in_ok-refused_if.ensures)

pub overflow_sub-result : goal.overflow_sub-result
overflow_sub-result c =
    let a = c.args in
    stars-within a.text.now a.name.start a.name.size c.stars_of-stars.result (sym c.is_unfit_name.ensures ∙ admits WrongSize _ c.in_ok-refused_if.ensures) (c.stars_of-stars.ensures ∙ ap stars_of c.bytes.ensures)

pub returns : goal.returns
returns c =
    let a = c.args in
    named a.text.now a.name.start a.name.size c.stars_of-stars.result (sym c.is_unfit_name.ensures ∙ admits WrongSize _ c.in_ok-refused_if.ensures) (c.stars_of-stars.ensures ∙ ap stars_of c.bytes.ensures)
