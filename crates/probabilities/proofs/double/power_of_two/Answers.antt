-- The double of a power of two meets its contract. Assumes nothing.
use lib.Ieee.{Float}
use lib.Ieee.Exact.{HasValue}
use mathlib.Core.Path.{subst, sym}
use mathlib.Core.Bool.{false}
use Prim.Native.Nat.{◌*◌, ◌-◌, ◌^◌}
use Rattle.probabilities.proofs.Doubled.{power-value}
use Rattle.probabilities.proofs.double.power_of_two.Goals as goal

pub returns : goal.returns
returns c =
    let e = c.args.exponent in
    subst (λ (x : Float). HasValue x false (2 ^ 52 * 2 ^ (e - 1)) (2 ^ 1074)) (sym c.double.ensures) (power-value e c.requires.some c.requires.exponent_bound)
