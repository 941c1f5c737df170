-- What the calls on a design's own energies answer: document 02's number and place, or a figure that is near the exact one. What that is, is in
-- Numbers.antt.
use Rattle.std.specs.Prelude.{◌≡◌, Bool, false, List, [], ◌∷◌, eqb, Result, Ok, Err}
use Rattle.reply.specs.Number.{Reply}
use Rattle.reply.specs.First.{Check, first_of, ◌if◌}
use Rattle.reply.specs.declared.Refusal.TheVariants.{BareScaffold}
use Rattle.reply.specs.declared.Refused.{Refused}
use Rattle.fractions.specs.declared.Weight.{Weight}
use Rattle.design.specs.Design.{Design, positions, model_of}
use Rattle.design.specs.Checks.{design_checks}
use Rattle.state_sums.specs.Sizes.{Lists, wrong_lists}
use Rattle.state_sums.specs.Answers.{constraint_of}
use Rattle.probabilities.specs.Numbers.{FreeEnergySum, ConstrainedEnergySum, Probability}

-- 18, a scaffold of no positions; there is no 19, since the weights are worked out
abbrev pub bare_checks : Design → List Check
bare_checks d = BareScaffold if eqb (positions d) 0 ∷ []

-- what is refused: the checks of a design, and 18 last
abbrev pub energy_checks : Bool → Design → List Check
energy_checks own_size d = design_checks own_size d [] (bare_checks d)

-- an answer is the refusal that is replied, or where none is a figure of which something holds
abbrev pub Said : Reply → (Weight → Type 0) → Result Weight Refused → Type 0
Said reply Holds (Ok figure) = (reply ≡ Ok tt) × Holds figure
Said reply Holds (Err refused) = reply ≡ Err refused

-- the answer of `free_sum_of_energies`
abbrev pub FreeSaid : Design → Result Weight Refused → Type 0
FreeSaid d r = Said (first_of (energy_checks false d)) (FreeEnergySum (model_of d)) r

-- the answer of `constrained_sum_of_energies`
abbrev pub ConstrainedSaid : Design → Lists → Result Weight Refused → Type 0
ConstrainedSaid d l r = Said (first_of (energy_checks (wrong_lists (positions d) l) d)) (ConstrainedEnergySum (model_of d) (constraint_of l)) r

-- the answer of `probability`
abbrev pub ProbabilitySaid : Design → Lists → Result Weight Refused → Type 0
ProbabilitySaid d l r = Said (first_of (energy_checks (wrong_lists (positions d) l) d)) (Probability (model_of d) (constraint_of l)) r
