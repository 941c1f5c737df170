-- A small model on which the first state under a ceiling is neither the last nor the lowest; proofs/Cases.antt works it out.
use Rattle.std.specs.Prelude.{◌≡◌, true, [], ◌∷◌}
use Rattle.doubles.specs.Decimal.{plus, minus, nearest, zero}
use Rattle.model.specs.Model.{Model}
use Rattle.model.specs.Bits.{row}
use Rattle.ceiling.specs.Ceiling.{state_under, none_under}

-- one position with two friends, RT 1: they have 0.5 and −1.0, and the empty place 0.0
unfoldable pub several : Model
unfolding nearest
several = row ((1 ∷ 2 ∷ []) ∷ []) (plus 0 0 ∷ plus 5 1 ∷ minus 1 0 ∷ []) [] [] (plus 1 0)

-- Under 1.0 are all three: the last would be [0], and the lowest [2].
pub record FirstOfSeveral : Type 0 where
  pub of_three : state_under several (nearest (plus 1 0)) ≡ 1 ∷ []
  pub of_two : state_under several zero ≡ 2 ∷ []
  pub of_none : none_under several (nearest (minus 11 1)) ≡ true
