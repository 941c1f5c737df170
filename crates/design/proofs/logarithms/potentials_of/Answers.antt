use mathlib.Core.Path.{◌≡◌, refl, sym, ap, ◌∙◌}
use mathlib.Core.Bool.{false}
use Prim.Native.Nat.{◌≤◌}
use lib.ListN.{length, take}
use lib.Seq.{length-take-le, get_or-take}
use Rattle.doubles.specs.Decimal.{zero}
use Rattle.design.specs.declared.Amounts.TheVariants.{Concentrations}
use Rattle.design.specs.Design.{Design, strands}
use Rattle.design.specs.Checks.{dilute}
use Rattle.reply.specs.declared.Refusal.TheVariants.{TooDilute}
use Rattle.design.proofs.Replies.{bare-false}
use Rattle.design.proofs.ReadLogarithms.{logarithms-are}
use Rattle.design.proofs.logarithms.potentials_of.Goals as goal

pub returns-in-Potentials-clause-told : goal.returns-in-Potentials-clause-told
unfolding dilute
returns-in-Potentials-clause-told c = rw (← c.design.view_is, c.in-Potentials.is) refl

pub returns-in_ok-fill_logarithms-in-Concentrations-clause-value : goal.returns-in_ok-fill_logarithms-in-Concentrations-clause-value
returns-in_ok-fill_logarithms-in-Concentrations-clause-value c =
    let d = c.args.design.now in
    let logs = c.fill_logarithms.new.logarithms in
    let told = c.in_ok-fill_logarithms-in-Concentrations.ensures in
    let given : d.given ≡ Concentrations = ap (λ (d : Design). d.given) (sym c.design.view_is) ∙ c.in-Concentrations.is in
    let none : dilute d ≡ false = bare-false (dilute d) TooDilute told.value in
    let room : strands d ≤ length logs = rw (c.fill_logarithms.ensures.len_unchanged) c.requires.room in
    rw c.strands.ensures
    (logarithms-are d given (take (strands d) logs) (length-take-le (strands d) logs room) none
    (λ x h. get_or-take (strands d) logs x zero h ∙ told.filled x h))
