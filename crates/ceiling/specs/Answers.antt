-- What the call on a ceiling answers of a design and of the lent entries: document 02's number and figure, and what stands in the entries afterwards.
use Rattle.std.specs.Prelude.{not, List, [], ◌∷◌, ◌++◌, ℕ, eqb, length, Float}
use Rattle.doubles.specs.Decimal.{zero}
use Rattle.reply.specs.First.{Check, first_of, ◌if◌}
use Rattle.reply.specs.Figures.{Figures, figures_of, entries_of}
use Rattle.reply.specs.declared.Refusal.TheVariants.{NoneUnder}
use Rattle.model.specs.Energy.{state_energy}
use Rattle.design.specs.Design.{Design, positions, model_of}
use Rattle.design.specs.Checks.{ranged_checks, own_count_checks, number_checks}
use Rattle.ceiling.specs.Ceiling.{state_under, none_under, finite}

-- what is judged once the tables pass: the number of states, the ambient and the potentials, and at last whether a state is under the ceiling
abbrev pub counted_checks : Design → Float → List Check
counted_checks d ceiling = own_count_checks d ++ (number_checks d ++ (NoneUnder if none_under (model_of d) ceiling ∷ []))

-- a state is written into one lent entry for each position; a ceiling that is not finite comes after the cells, without a place
abbrev pub ceiling_checks : Design → Float → List ℕ → List Check
ceiling_checks d ceiling entries =
    ranged_checks (not (eqb (length entries) (positions d))) (not (finite ceiling)) d.scaffold d.marks d.glues d.dg d.ds d.amounts ++ counted_checks d ceiling

-- the answer of `first_state_under`: the state energy of that state
abbrev pub ceiling_answer : Design → Float → List ℕ → Figures Float
ceiling_answer d ceiling entries = figures_of (first_of (ceiling_checks d ceiling entries)) zero (state_energy (model_of d) (state_under (model_of d) ceiling))

-- the lent entries afterwards
abbrev pub ceiling_entries : Design → Float → List ℕ → List ℕ
ceiling_entries d ceiling entries = entries_of (first_of (ceiling_checks d ceiling entries)) entries (state_under (model_of d) ceiling)

-- ---- the same where the tables pass

-- the answer
abbrev pub counted_answer : Design → Float → Figures Float
counted_answer d ceiling = figures_of (first_of (counted_checks d ceiling)) zero (state_energy (model_of d) (state_under (model_of d) ceiling))

-- the entries
abbrev pub counted_entries : Design → Float → List ℕ → List ℕ
counted_entries d ceiling entries = entries_of (first_of (counted_checks d ceiling)) entries (state_under (model_of d) ceiling)
