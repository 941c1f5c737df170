-- Designs whose amounts read alike have the same friends, and so the same sums. Assumes nothing.
use mathlib.Core.Path.{◌≡◌, sym, ap, ap₂, ◌∙◌}
use mathlib.Core.Bool.{Bool, ◌||◌}
use mathlib.Core.List.{List, [], ◌∷◌, map}
use Prim.Native.Nat.{ℕ}
use lib.Dec.{eqb}
use lib.Ieee.{Float}
use Rattle.reply.specs.First.{Check, ◌if◌, first_of}
use Rattle.reply.specs.Figures.{figures_of}
use Rattle.reply.specs.declared.Refusal.TheVariants.{BareScaffold, WeightOut}
use Rattle.model.specs.Model.{options_of}
use Rattle.design.specs.declared.Amounts.{Amounts}
use Rattle.design.specs.Design.{Design, positions, model_of}
use Rattle.design.specs.Checks.{design_checks}
use Rattle.design.specs.Unread.{with_amounts, ReadAlike}
use Rattle.design.proofs.Unread.{same_read, same-design-reply}
use Rattle.partition.specs.Sum.{zero_weight}
use Rattle.partition.specs.Pass.{allowed}
use Rattle.partition.specs.Weights.{Weights, weights_out}
use Rattle.partition.specs.Summed.{sum_of_weights}
use Rattle.state_sums.specs.Sizes.{wrong_cells, wrong_lists}
use Rattle.state_sums.specs.Answers.{own_sum_checks, constraint_of}
use Rattle.state_sums.specs.Unread.{UnreadBySums}

module _ (d : Design) (amounts : List Float) (given : Amounts) (r : ReadAlike d amounts given) where
  abbrev other : Design
  other = with_amounts d amounts given

  friends : (model_of d).friends ≡ (model_of other).friends
  friends = (same_read d amounts given r).friends

  checks : (own_size : Bool) (w : Weights) → design_checks own_size d [] (own_sum_checks d w) ≡ design_checks own_size other [] (own_sum_checks other w)
  checks own_size w =
      sym (same-design-reply d amounts given r own_size [] (own_sum_checks d w))
      ∙ ap (λ (f : List (List ℕ)). design_checks own_size other [] (BareScaffold if eqb (positions d) 0 ∷ WeightOut if weights_out f w ∷ [])) friends

pub unread-by-sums : UnreadBySums
unread-by-sums d amounts given r = record {
  free = λ w. ap₂ (λ (cs : List Check) (f : List (List ℕ)). figures_of (first_of cs) zero_weight (sum_of_weights w (map options_of f))) (checks d amounts given r (wrong_cells (positions d) w) w) (friends d amounts given r);
  constrained = λ w l.
      ap₂ (λ (cs : List Check) (f : List (List ℕ)). figures_of (first_of cs) zero_weight (sum_of_weights w (allowed (constraint_of l) (map options_of f))))
      (checks d amounts given r (wrong_cells (positions d) w || wrong_lists (positions d) l) w) (friends d amounts given r);
}
