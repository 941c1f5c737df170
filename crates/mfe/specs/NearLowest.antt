-- The configuration that the search returns has the lowest chain energy; its state energy, which rounds otherwise, is nearly the lowest.
use Rattle.std.specs.Prelude.{◌≡◌, List, ℕ}
use Rattle.std.specs.Float.{binary64}
use Rattle.doubles.specs.Near.{two_to_minus, AtMost}
use Rattle.model.specs.Model.{State}
use Rattle.model.specs.Energy.{state_energy}
use Rattle.design.specs.Design.{Design, model_of}
use Rattle.design.specs.Laws.{Doubles}
use Rattle.mfe.specs.Answers.{search_answer, search_entries}

-- Wherever the search answers, no state's state energy is lower by more than 2⁻¹⁵ kcal/mol than that of the configuration returned.
abbrev pub SearchNearLowest : Type 0
SearchNearLowest =
    (d : Design) (entries : List ℕ)
    → Doubles d
    → (search_answer d entries).number ≡ 0
    → (t : List ℕ)
    → State (model_of d) t
    → AtMost binary64 (two_to_minus binary64 15) (state_energy (model_of d) (search_entries d entries)) (state_energy (model_of d) t)
