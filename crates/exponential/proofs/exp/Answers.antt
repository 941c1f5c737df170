-- The call meets its contract. Assumes nothing.
use mathlib.Core.Path.{refl, sym, ◌∙◌}
use lib.Ieee.{neg, of_bits}
use Rattle.exponential.specs.Near.{least_argument, most_argument}
use Rattle.exponential.proofs.exp.Goals as goal

pub returns-then-not-in_range : goal.returns-then-not-in_range
unfolding least_argument most_argument neg of_bits
returns-then-not-in_range c = (sym c.in_range.ensures ∙ c.if-not-in_range.true, refl)

pub exp_weight-requires : goal.exp_weight-requires
unfolding least_argument most_argument neg of_bits
exp_weight-requires c = sym c.in_range.ensures ∙ c.if-not-in_range.false

pub returns : goal.returns
unfolding least_argument most_argument neg of_bits
returns c = (sym c.in_range.ensures ∙ c.if-not-in_range.false, c.exp_weight.ensures)
