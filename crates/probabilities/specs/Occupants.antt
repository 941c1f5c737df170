-- The probability of each occupant at each position, in tables of positions by strands, row first: column 0 is the empty place. Each is the probability
-- of the states that have the occupant there.
use Rattle.std.specs.Prelude.{Bool, not, ◌||◌, cond, List, [], ◌∷◌, ℕ, ◌*◌, ◌/◌, ◌%◌, ◌<◌, eqb, length, ℤ}
use Rattle.reply.specs.Number.{Reply}
use Rattle.reply.specs.First.{first_of}
use Rattle.lists.specs.Build.{tabulate}
use Rattle.design.specs.Design.{Design, positions, strands, model_of}
use Rattle.partition.specs.Weights.{weight_at}
use Rattle.probabilities.specs.Numbers.{Probability}
use Rattle.probabilities.specs.Answers.{energy_checks}

-- the constraint of an occupant at one of so many positions: the list there has it alone, and all others are empty
unfoldable pub only_here : ℕ → ℕ → ℕ → List (List ℕ)
unfolding tabulate
only_here positions i x = tabulate positions (λ k. cond (eqb k i) (x ∷ []) [])

-- the cell of each position and occupant holds the probability of that occupant there
abbrev pub OccupantsFilled : Design → List ℕ → List ℤ → Type 0
OccupantsFilled d digits powers =
    (cell : ℕ)
    → cell < positions d * strands d
    → Probability (model_of d) (only_here (positions d) (cell / strands d) (cell % strands d)) (weight_at digits powers cell)

-- not one cell for each position and strand, in digits or in powers
abbrev pub wrong_entries : Design → List ℕ → List ℤ → Bool
wrong_entries d digits powers =
    not (eqb (length digits) (positions d * strands d)) || not (eqb (length powers) (positions d * strands d))

-- the reply of `occupant_probabilities`: that of a probability, but that the sizes are those of the tables
abbrev pub occupants_reply : Design → List ℕ → List ℤ → Reply
occupants_reply d digits powers = first_of (energy_checks (wrong_entries d digits powers) d)
