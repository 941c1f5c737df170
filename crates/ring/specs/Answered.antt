-- What is shown of the answers on rings, of the definitions by which the contracts of the calls are stated: when the number is 0, that the search's is
-- then demand 3's, and that every figure is finite. proofs/Answered.antt shows it of every design, whatever is lent.
use Rattle.std.specs.Prelude.{◌≡◌, ◌↔◌, List, ℕ, ◌≤◌, length}
use Rattle.std.specs.Float.{binary64}
use Rattle.doubles.specs.Size.{Within}
use Rattle.model.specs.Model.{State}
use Rattle.model.specs.Ring.{LowestRing}
use Rattle.design.specs.Design.{Design, positions, model_of}
use Rattle.design.specs.Checks.{Admitted}
use Rattle.design.specs.Laws.{Doubles}
use Rattle.ring.specs.Answers.{least_ring, ring_energy_answer, ring_search_answer, ring_search_entries}

-- the answer to one design and a configuration: the number is 0 exactly if the design is admitted and a ring, and the configuration one of its states
abbrev pub RingEnergyAnswered : Type 0
RingEnergyAnswered =
    (d : Design) (s : List ℕ) → ((ring_energy_answer d s).number ≡ 0) ↔ Admitted d × (least_ring ≤ positions d) × State (model_of d) s

-- the answer to one design and lent entries
pub record RingSearchAnswered (d : Design) (entries : List ℕ) : Type 0 where
  -- the number is 0 exactly if the design is admitted and a ring, and an entry is lent for each position
  pub exactly : ((ring_search_answer d entries).number ≡ 0) ↔ Admitted d × (least_ring ≤ positions d) × (length entries ≡ positions d)
  -- where it is 0, the configuration that stands in the entries and the energy answered are the lowest
  pub lowest : (ring_search_answer d entries).number ≡ 0 → LowestRing (model_of d) (ring_search_entries d entries) (ring_search_answer d entries).figure

-- of every design and all that is lent
abbrev pub RingSearchAnswers : Type 0
RingSearchAnswers = (d : Design) (entries : List ℕ) → Doubles d → RingSearchAnswered d entries

-- ---- every figure is finite, to whatever is sent: at most 385 bonds of at most 80,000, and RT of at most 8; a refusal has 0.0
pub record RingFiguresFinite (d : Design) : Type 0 where
  pub energies : (s : List ℕ) → Within binary64 246400000 (ring_energy_answer d s).figure
  pub searches : (entries : List ℕ) → Within binary64 246400000 (ring_search_answer d entries).figure

-- of every design, admitted or not
abbrev pub RingsFinite : Type 0
RingsFinite = (d : Design) → Doubles d → RingFiguresFinite d
