-- What the calls on rings answer of a design and of what is lent: document 02's number and figure, and what stands in the entries afterwards.
use Rattle.std.specs.Prelude.{◌≡◌, not, List, [], ◌∷◌, ℕ, ◌≤◌, eqb, ltb, length, Float, Result}
use Rattle.doubles.specs.Decimal.{zero}
use Rattle.reply.specs.First.{Check, first_of, ◌if◌}
use Rattle.reply.specs.Figures.{Figures, figures_of, entries_of}
use Rattle.reply.specs.declared.Refusal.TheVariants.{NotARing}
use Rattle.model.specs.Ring.{ring_energy, ring_search, LowestRing}
use Rattle.design.specs.Design.{Design, positions, model_of}
use Rattle.design.specs.Checks.{Admitted, design_checks, own_energy_checks}
use Rattle.design.specs.Answers.{energy_figures}
use Rattle.reply.specs.declared.Refused.{Refused}
use Rattle.units.specs.declared.KcalPerMol.{KcalPerMol}

-- ---- checks

-- a ring has at least 3 positions
abbrev pub least_ring : ℕ
least_ring = 3

-- document 02's refusal 20
abbrev pub own_ring_checks : Design → List Check
own_ring_checks d = NotARing if ltb (positions d) least_ring ∷ []

-- what is refused of a ring energy: what is of a chain energy, and then 20
abbrev pub ring_energy_checks : Design → List ℕ → List Check
ring_energy_checks d s = design_checks (not (eqb (length s) (positions d))) d (own_energy_checks d s) (own_ring_checks d)

-- of a search, whose configuration is written into one lent entry for each position: what is of the chain's, and then 20
abbrev pub ring_search_checks : Design → List ℕ → List Check
ring_search_checks d entries = design_checks (not (eqb (length entries) (positions d))) d [] (own_ring_checks d)

-- ---- answers

-- the answer of `ring_energy`
abbrev pub ring_energy_answer : Design → List ℕ → Figures Float
ring_energy_answer d s = figures_of (first_of (ring_energy_checks d s)) zero (ring_energy (model_of d) s)

-- the answer of `ring_configuration`
abbrev pub ring_search_answer : Design → List ℕ → Figures Float
ring_search_answer d entries = figures_of (first_of (ring_search_checks d entries)) zero (ring_search (model_of d)).energy

-- the lent entries afterwards
abbrev pub ring_search_entries : Design → List ℕ → List ℕ
ring_search_entries d entries = entries_of (first_of (ring_search_checks d entries)) entries (ring_search (model_of d)).configuration

-- Demand 3 of rings: of every admitted design that is one, with an entry lent for each position, the lowest ring is written and its energy answered.
abbrev pub LowestRingShown : Design → List ℕ → List ℕ → Result KcalPerMol Refused → Type 0
LowestRingShown d entries written r =
    Admitted d → least_ring ≤ positions d → length entries ≡ positions d → LowestRing (model_of d) written (energy_figures r).figure
