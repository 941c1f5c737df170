-- What the sums answer of a design, of the weights lent and of a constraint: document 02's number and figure. The sums themselves are in
-- partition/specs: Sum.antt what they are, Constraint.antt what a constraint allows, Weights.antt which weights are looked at.
use Rattle.std.specs.Prelude.{◌≡◌, ◌||◌, List, [], ◌∷◌, ℕ, eqb, Result}
use Rattle.reply.specs.Number.{answered}
use Rattle.reply.specs.First.{Check, first_of, ◌if◌}
use Rattle.reply.specs.Figures.{Figures, figures_of, result_figures}
use Rattle.reply.specs.declared.Refusal.TheVariants.{BareScaffold, WeightOut}
use Rattle.fractions.specs.declared.Weight.{Weight}
use Rattle.design.specs.Design.{Design, positions, model_of}
use Rattle.design.specs.Checks.{design_checks}
use Rattle.partition.specs.Sum.{zero_weight, FreeSum, ConstrainedSum}
use Rattle.partition.specs.Constraint.{lists_of}
use Rattle.partition.specs.Weights.{Weights, place_worth, pair_worth, weights_out}
use Rattle.partition.specs.Summed.{free_figure, constrained_figure}
use Rattle.reply.specs.declared.Refused.{Refused}
use Rattle.state_sums.specs.Sizes.{Lists, wrong_cells, wrong_lists}

-- ---- the checks

-- 18, a scaffold of no positions; 19, a weight outside its form that some state of the design uses
abbrev pub own_sum_checks : Design → Weights → List Check
own_sum_checks d w = BareScaffold if eqb (positions d) 0 ∷ WeightOut if weights_out (model_of d).friends w ∷ []

-- what is refused of the free sum
abbrev pub free_checks : Design → Weights → List Check
free_checks d w = design_checks (wrong_cells (positions d) w) d [] (own_sum_checks d w)

-- what is refused of the constrained sum: the lists have no other check than that of their sizes
abbrev pub constrained_checks : Design → Weights → Lists → List Check
constrained_checks d w l = design_checks (wrong_cells (positions d) w || wrong_lists (positions d) l) d [] (own_sum_checks d w)

-- ---- the answers

-- the list of each position
abbrev pub constraint_of : Lists → List (List ℕ)
constraint_of l = lists_of l.numbers l.starts l.lengths

-- the answer of `free_sum`: a refusal's figure is 0
abbrev pub free_answer : Design → Weights → Figures Weight
free_answer d w = figures_of (first_of (free_checks d w)) zero_weight (free_figure (model_of d) w)

-- the answer of `constrained_sum`
abbrev pub constrained_answer : Design → Weights → Lists → Figures Weight
constrained_answer d w l = figures_of (first_of (constrained_checks d w l)) zero_weight (constrained_figure (model_of d) w (constraint_of l))

-- the number and figure of an answer of the code
abbrev pub sum_figures : Result Weight Refused → Figures Weight
sum_figures = result_figures zero_weight (λ sum. sum)

-- ---- what the request asks of them

-- Where the free sum is answered, the figure is within one part in 2^15 of the exact sum over the states of the design.
abbrev pub FreeShown : Design → Weights → Figures Weight → Type 0
FreeShown d w r = r.number ≡ answered → FreeSum (place_worth w) (pair_worth w) (model_of d) r.figure

-- Where the constrained sum is answered, so is its figure of those that meet the constraint, and it is zero exactly if none does.
abbrev pub ConstrainedShown : Design → Weights → Lists → Figures Weight → Type 0
ConstrainedShown d w l r = r.number ≡ answered → ConstrainedSum (place_worth w) (pair_worth w) (model_of d) (constraint_of l) r.figure
