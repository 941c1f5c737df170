-- What the C functions on a design's own energies tell: a weight that is known by how near it lies.
use Rattle.std.specs.Prelude.{◌≡◌, true, false, List, ℕ, ℤ, Float, Option, None, Some}
use Rattle.reply.specs.Number.{Reply, answered, number_of}
use Rattle.reply.specs.First.{first_of}
use Rattle.reply.specs.Figures.{reply_figures, refused_with}
use Rattle.reply.specs.declared.Refusal.TheVariants.{WrongSize, OutOfRange}
use Rattle.fractions.specs.declared.Weight.{Weight}
use Rattle.exponential.specs.Near.{ExpOf, has_exponential}
use Rattle.design.specs.Design.{Design, positions, model_of}
use Rattle.partition.specs.Sum.{zero_weight}
use Rattle.state_sums.specs.Sizes.{Lists, wrong_lists}
use Rattle.state_sums.specs.Answers.{constraint_of}
use Rattle.probabilities.specs.Numbers.{FreeEnergySum, ConstrainedEnergySum, Probability}
use Rattle.probabilities.specs.Answers.{energy_checks}
use Rattle.probabilities.specs.Occupants.{OccupantsFilled, occupants_reply}
use Rattle.exports.specs.Place.{place_number}
use Rattle.exports.specs.Told.{Told}

-- number and place are the reply's; where the number is 0 something holds of the weight, and else it is zero
pub record NearTold (reply : Reply) (Holds : Weight → Type 0) (r at : ℕ) (w : Weight) : Type 0 where
  pub number : r ≡ (reply_figures reply).number
  pub place : at ≡ place_number (reply_figures reply).place
  pub right : r ≡ answered → Holds w
  pub blank : (r ≡ answered → ⊥) → w ≡ zero_weight

-- of the free sum
abbrev pub FreeEnergyTold : Design → ℕ → ℕ → Weight → Type 0
FreeEnergyTold d = NearTold (first_of (energy_checks false d)) (FreeEnergySum (model_of d))

-- of the constrained sum
abbrev pub ConstrainedEnergyTold : Design → Lists → ℕ → ℕ → Weight → Type 0
ConstrainedEnergyTold d l = NearTold (first_of (energy_checks (wrong_lists (positions d) l) d)) (ConstrainedEnergySum (model_of d) (constraint_of l))

-- of the probability
abbrev pub ProbabilityTold : Design → Lists → ℕ → ℕ → Weight → Type 0
ProbabilityTold d l = NearTold (first_of (energy_checks (wrong_lists (positions d) l) d)) (Probability (model_of d) (constraint_of l))

-- Of the occupants: number and place are the reply's; where the number is 0 each cell holds the probability of its occupant, and else both tables are as
-- they were.
pub record OccupantsTold (d : Design) (digits : List ℕ) (powers : List ℤ) (r at : ℕ) (digits_after : List ℕ) (powers_after : List ℤ) : Type 0 where
  pub told : Told (reply_figures (occupants_reply d digits powers)) r at (tt {0})
  pub filled : r ≡ answered → OccupantsFilled d digits_after powers_after
  pub digits_kept : (r ≡ answered → ⊥) → digits_after ≡ digits
  pub powers_kept : (r ≡ answered → ⊥) → powers_after ≡ powers

-- of the design that a C function is lent; where the number of its amounts says nothing, 1, nowhere, and both tables as they were
abbrev pub OccupantsIn : Option Design → List ℕ → List ℤ → ℕ → ℕ → List ℕ → List ℤ → Type 0
OccupantsIn (Some d) digits powers r at digits_after powers_after = OccupantsTold d digits powers r at digits_after powers_after
OccupantsIn None digits powers r at digits_after powers_after =
    Told (refused_with (tt {0}) WrongSize None) r at (tt {0}) × ((digits_after ≡ digits) × (powers_after ≡ powers))

-- of the design that a C function is lent; where the number of its amounts says nothing, 1, nowhere, and zero
abbrev pub NearIn : Option Design → (Design → ℕ → ℕ → Weight → Type 0) → ℕ → ℕ → Weight → Type 0
NearIn (Some d) told r at w = told d r at w
NearIn None told r at w = Told (refused_with zero_weight WrongSize None) r at w

-- of the exponential of one double, which has no place: 9 where it has none that is taken
pub record ExpTold (x : Float) (r : ℕ) (w : Weight) : Type 0 where
  pub taken : has_exponential x ≡ true → (r ≡ answered) × ExpOf x w
  pub out : has_exponential x ≡ false → (r ≡ number_of OutOfRange) × (w ≡ zero_weight)
