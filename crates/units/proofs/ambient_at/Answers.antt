-- `units::ambient_at` meets its contract: the range test is that of the check, and each figure is what its method ensures.
-- Assumes nothing.
use mathlib.Core.Path.{◌≡◌, ◌∙◌, ap}
use lib.Ieee.{div, of_bits}
use Rattle.std.specs.Prelude.{Ok}
use Rattle.doubles.specs.Decimal.{nearest}
use Rattle.doubles.specs.Range.{in_range}
use Rattle.reply.specs.First.{first_of}
use Rattle.units.specs.Ambient.{ambient_figures, ambient_checks, refused, ambient_at, gas_constant, excess_over37_c}
use Rattle.reply.proofs.Bare.{same-error, admitted, answers}
use Rattle.units.proofs.ambient_at.Goals as goal

pub returns-in_err-refused_if : goal.returns-in_err-refused_if
unfolding ambient_at in_range nearest of_bits
returns-in_err-refused_if c =
    let kelvin = c.args.temperature.0 in
    ap ambient_figures (same-error _ c.from_residual.ensures) ∙ answers (first_of (ambient_checks kelvin)) refused _ (rw c.in_range-known.ensures at c.in_err-refused_if.ensures)

pub returns : goal.returns
unfolding ambient_at in_range nearest of_bits div gas_constant excess_over37_c
returns c =
    let kelvin = c.args.temperature.0 in
    let reply : first_of (ambient_checks kelvin) ≡ Ok tt = admitted _ (rw c.in_range-known.ensures at c.in_ok-refused_if.ensures) in
    rw reply (cc)
