-- `settle::settle::said` meets its contract. Assumes nothing.
use mathlib.Core.Path.{◌≡◌, sym, ◌∙◌}
use Rattle.std.proofs.Common.{rules}
use Rattle.std.specs.Prelude.{Err}
use Rattle.settle.specs.Files.{said_told}
use Rattle.settle.proofs.Said.{where_ok}
use Rattle.settle.proofs.settle.said.Goals as goal

pub returns-in_err-concentrations-clause-told : goal.returns-in_err-concentrations-clause-told
unfolding said_told
returns-in_err-concentrations-clause-told c =
    let u = c.in_err-concentrations.field-0.0 in
    let out : c.from_residual.result ≡ Err u = search rules in
    let ends = rw c.in_err-concentrations.was at c.concentrations.ensures.ends in
    rw out (sym (ends _))

pub returns-clause-told : goal.returns-clause-told
unfolding said_told
returns-clause-told c =
    let goes = rw c.in_ok-concentrations.was at c.concentrations.ensures.goes_on in
    c.searched.ensures.told ∙ sym (goes _)

pub returns-clause-lowest : goal.returns-clause-lowest
returns-clause-lowest c = where_ok c.searched.result c.searched.ensures.lowest
