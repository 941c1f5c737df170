-- The search that a file asks for: of a ring where it says `ring`, and else of a chain.
use Rattle.std.specs.Prelude.{Bool, true, false, List, ℕ, Float}
use Rattle.reply.specs.First.{Check}
use Rattle.reply.specs.Figures.{Figures}
use Rattle.design.specs.Design.{Design}
use Rattle.mfe.specs.Answers.{search_checks, search_answer, search_entries}
use Rattle.mfe.specs.Answered.{SearchAnswered}
use Rattle.ring.specs.Answers.{ring_search_checks, ring_search_answer, ring_search_entries}
use Rattle.ring.specs.Answered.{RingSearchAnswered}

-- when it is refused
abbrev pub checks_by : Bool → Design → List ℕ → List Check
checks_by true d entries = ring_search_checks d entries
checks_by false d entries = search_checks d entries

-- what it answers
abbrev pub answer_by : Bool → Design → List ℕ → Figures Float
answer_by true d entries = ring_search_answer d entries
answer_by false d entries = search_answer d entries

-- the lent entries afterwards
abbrev pub entries_by : Bool → Design → List ℕ → List ℕ
entries_by true d entries = ring_search_entries d entries
entries_by false d entries = search_entries d entries

-- when it answers, and that it then shows the lowest ring, or the lowest configuration of the chain
abbrev pub AnsweredBy : Bool → Design → List ℕ → Type 0
AnsweredBy true d entries = RingSearchAnswered d entries
AnsweredBy false d entries = SearchAnswered d entries
