-- What the search answers of a design and of the lent entries: document 01's number and figure, and what stands in the entries afterwards.
use Rattle.std.specs.Prelude.{◌≡◌, not, List, [], ℕ, eqb, length, Float, Result}
use Rattle.doubles.specs.Decimal.{zero}
use Rattle.reply.specs.First.{Check, first_of}
use Rattle.reply.specs.Figures.{Figures, figures_of, entries_of}
use Rattle.model.specs.Search.{search}
use Rattle.model.specs.LowestConfiguration.{LowestConfiguration}
use Rattle.design.specs.Design.{Design, positions, model_of}
use Rattle.design.specs.Checks.{Admitted, design_checks}
use Rattle.design.specs.Answers.{energy_figures}
use Rattle.reply.specs.declared.Refused.{Refused}
use Rattle.units.specs.declared.KcalPerMol.{KcalPerMol}

-- the configuration is written into one lent entry for each position; the search has no other check of its own
abbrev pub search_checks : Design → List ℕ → List Check
search_checks d entries = design_checks (not (eqb (length entries) (positions d))) d [] []

-- the answer of `mfe_configuration`
abbrev pub search_answer : Design → List ℕ → Figures Float
search_answer d entries = figures_of (first_of (search_checks d entries)) zero (search (model_of d)).energy

-- the lent entries afterwards
abbrev pub search_entries : Design → List ℕ → List ℕ
search_entries d entries = entries_of (first_of (search_checks d entries)) entries (search (model_of d)).configuration

-- Demand 3: of every admitted design, with an entry lent for each position, the lowest configuration is written and its energy answered.
abbrev pub LowestShown : Design → List ℕ → List ℕ → Result KcalPerMol Refused → Type 0
LowestShown d entries written r = Admitted d → length entries ≡ positions d → LowestConfiguration (model_of d) written (energy_figures r).figure
