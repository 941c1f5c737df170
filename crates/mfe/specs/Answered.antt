-- What is shown of the search's answer, of the definitions by which the contracts of its calls are stated: when its number is 0, that it then is
-- demand 3's, that its energy is finite, and what it does not depend on. proofs/Answered.antt shows it of every design, whatever is lent.
use Rattle.std.specs.Prelude.{◌≡◌, ◌↔◌, List, ℕ, length, Float}
use Rattle.std.specs.Float.{binary64}
use Rattle.doubles.specs.Size.{Within}
use Rattle.model.specs.LowestConfiguration.{LowestConfiguration}
use Rattle.design.specs.declared.Amounts.{Amounts}
use Rattle.design.specs.Design.{Design, positions, model_of}
use Rattle.design.specs.Checks.{Admitted}
use Rattle.design.specs.Laws.{Doubles}
use Rattle.design.specs.Unread.{with_amounts, ReadAlike}
use Rattle.mfe.specs.Answers.{search_answer, search_entries}

-- the answer to one design and lent entries
pub record SearchAnswered (d : Design) (entries : List ℕ) : Type 0 where
  -- the number is 0 exactly if the design is admitted and an entry is lent for each position
  pub exactly : ((search_answer d entries).number ≡ 0) ↔ Admitted d × (length entries ≡ positions d)
  -- where it is 0, the configuration that stands in the entries and the energy answered are the lowest
  pub lowest : (search_answer d entries).number ≡ 0 → LowestConfiguration (model_of d) (search_entries d entries) (search_answer d entries).figure
  -- the energy is finite, and a refusal's is 0.0
  pub finite : Within binary64 245760000 (search_answer d entries).figure

-- of every design and all that is lent
abbrev pub SearchAnswers : Type 0
SearchAnswers = (d : Design) (entries : List ℕ) → Doubles d → SearchAnswered d entries

-- amounts that read alike give the same answer: those of strands that are nowhere friends are not read, and of a concentration its logarithm alone
pub record SearchUnread (d : Design) (amounts : List Float) (given : Amounts) (entries : List ℕ) : Type 0 where
  pub answer : search_answer d entries ≡ search_answer (with_amounts d amounts given) entries
  pub written : search_entries d entries ≡ search_entries (with_amounts d amounts given) entries

-- of every design
abbrev pub UnreadBySearch : Type 0
UnreadBySearch = (d : Design) (amounts : List Float) (given : Amounts) (entries : List ℕ) → ReadAlike d amounts given → SearchUnread d amounts given entries
