-- Of a design's amounts these calls too read only those of strands that are somewhere friends, and of a concentration its logarithm alone. Their figures
-- are held to be near, not equal: what is an answer for one design is one for the other, and the sums that it is near are the same.
use Rattle.std.specs.Prelude.{◌≡◌, ◌↔◌, List, ℕ, ℤ, Float, Result}
use Rattle.reply.specs.declared.Refused.{Refused}
use Rattle.fractions.specs.declared.Weight.{Weight}
use Rattle.lists.specs.Build.{keep}
use Rattle.model.specs.States.{states}
use Rattle.partition.specs.Constraint.{meets}
use Rattle.design.specs.declared.Amounts.{Amounts}
use Rattle.design.specs.Design.{Design, model_of}
use Rattle.design.specs.Unread.{with_amounts, ReadAlike}
use Rattle.state_sums.specs.Sizes.{Lists}
use Rattle.probabilities.specs.Numbers.{exact_sum}
use Rattle.probabilities.specs.Answers.{FreeSaid, ConstrainedSaid, ProbabilitySaid}
use Rattle.probabilities.specs.Occupants.{OccupantsFilled, occupants_reply}

-- each call answers for one design what it may answer for the other
pub record EnergiesUnread (d e : Design) : Type 0 where
  pub free : (r : Result Weight Refused) → FreeSaid d r ↔ FreeSaid e r
  pub constrained : (l : Lists) (r : Result Weight Refused) → ConstrainedSaid d l r ↔ ConstrainedSaid e l r
  pub probabilities : (l : Lists) (r : Result Weight Refused) → ProbabilitySaid d l r ↔ ProbabilitySaid e l r
  pub replies : (digits : List ℕ) (powers : List ℤ) → occupants_reply d digits powers ≡ occupants_reply e digits powers
  pub occupants : (digits : List ℕ) (powers : List ℤ) → OccupantsFilled d digits powers ↔ OccupantsFilled e digits powers
  -- the exact sums of both are one number, as data: that over all states, and that over those that meet a constraint
  pub exact : exact_sum (model_of d) (states (model_of d)) ≡ exact_sum (model_of e) (states (model_of e))
  pub exact_constrained :
      (lists : List (List ℕ))
      → exact_sum (model_of d) (keep (meets lists) (states (model_of d))) ≡ exact_sum (model_of e) (keep (meets lists) (states (model_of e)))

-- of every design whose amounts read as others
abbrev pub UnreadByEnergies : Type 0
UnreadByEnergies = (d : Design) (amounts : List Float) (given : Amounts) → ReadAlike d amounts given → EnergiesUnread d (with_amounts d amounts given)
