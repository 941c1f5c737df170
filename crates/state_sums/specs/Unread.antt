-- Of a design the sums read the friends alone: designs whose amounts read alike are answered alike.
use Rattle.std.specs.Prelude.{◌≡◌, List, Float}
use Rattle.design.specs.declared.Amounts.{Amounts}
use Rattle.design.specs.Design.{Design}
use Rattle.design.specs.Unread.{with_amounts, ReadAlike}
use Rattle.partition.specs.Weights.{Weights}
use Rattle.state_sums.specs.Sizes.{Lists}
use Rattle.state_sums.specs.Answers.{free_answer, constrained_answer}

-- both sums give the same number and figure
pub record SumsUnread (d : Design) (amounts : List Float) (given : Amounts) : Type 0 where
  pub free : (w : Weights) → free_answer d w ≡ free_answer (with_amounts d amounts given) w
  pub constrained : (w : Weights) (l : Lists) → constrained_answer d w l ≡ constrained_answer (with_amounts d amounts given) w l

-- of every design
abbrev pub UnreadBySums : Type 0
UnreadBySums = (d : Design) (amounts : List Float) (given : Amounts) → ReadAlike d amounts given → SumsUnread d amounts given
