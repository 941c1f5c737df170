-- Sums over states, of what their C functions leave behind: the weight told is within one part in 2^15 of the exact sum.
use Rattle.std.specs.Prelude.{◌≡◌, ℕ}
use Rattle.reply.specs.Number.{answered}
use Rattle.fractions.specs.declared.Weight.{Weight}
use Rattle.design.specs.Design.{Design, model_of}
use Rattle.partition.specs.Sum.{FreeSum, ConstrainedSum}
use Rattle.partition.specs.Weights.{Weights, place_worth, pair_worth}
use Rattle.state_sums.specs.Sizes.{Lists}
use Rattle.state_sums.specs.Answers.{constraint_of}

-- where 0 is answered, of all states
abbrev pub FreeTold : Design → Weights → ℕ → Weight → Type 0
FreeTold d w r sum = r ≡ answered → FreeSum (place_worth w) (pair_worth w) (model_of d) sum

-- where 0 is answered, of those that meet the constraint
abbrev pub ConstrainedTold : Design → Weights → Lists → ℕ → Weight → Type 0
ConstrainedTold d w l r sum = r ≡ answered → ConstrainedSum (place_worth w) (pair_worth w) (model_of d) (constraint_of l) sum
