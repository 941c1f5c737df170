-- What a line about a design has to say, its kind's own word left out: the words of the question, then what the definition answers of that
-- design. Where a call writes, what it is lent stands beside.
use Rattle.std.specs.Prelude.{ℕ, List, [], ◌∷◌, take, to_bits, Float}
use Rattle.std.specs.Float.{binary64}
use Rattle.design.specs.Design.{Design}
use Rattle.reply.specs.Figures.{Figures}
use Rattle.design.specs.Answers.{strand_bond_answer, scaffold_bond_answer, friends_answer, friends_entries, count_answer, rank_answer, rank_entries, state_energy_answer, chain_energy_answer}
use Rattle.mfe.specs.Answers.{search_answer, search_entries}
use Rattle.replay.specs.Text.{Decimal}
use Rattle.replay.specs.Says.{Says}
use Rattle.replay.specs.Kinds.{word, later}
use Rattle.replay.specs.Places.{Places, SaysPlaces}

-- a number and a double
abbrev pub SaysDouble : List ℕ → Figures Float → Type 0
SaysDouble words f = Says words f.number (to_bits binary64 f.figure ∷ [])

-- X Y
pub record StrandBondLine (d : Design) (words : List ℕ) : Type 0 where
  pub x : ℕ
  pub y : ℕ
  pub first : Decimal (word words) x
  pub second : Decimal (word (later words)) y
  pub answer : SaysDouble (later (later words)) (strand_bond_answer d x y)

-- POSITION STRAND
pub record ScaffoldBondLine (d : Design) (words : List ℕ) : Type 0 where
  pub position : ℕ
  pub strand : ℕ
  pub first : Decimal (word words) position
  pub second : Decimal (word (later words)) strand
  pub answer : SaysDouble (later (later words)) (scaffold_bond_answer d position strand)

-- POSITION
pub record FriendsLine (d : Design) (words entries : List ℕ) : Type 0 where
  pub position : ℕ
  pub first : Decimal (word words) position
  pub answer :
      SaysPlaces (later words) (friends_answer d position entries).number
      (take (friends_answer d position entries).figure (friends_entries d position entries))

-- no words: the number of states
abbrev pub CountLine : Design → List ℕ → Type 0
CountLine d words = Says words (count_answer d).number ((count_answer d).figure ∷ [])

-- RANK
pub record StateLine (d : Design) (words lent : List ℕ) : Type 0 where
  pub rank : ℕ
  pub first : Decimal (word words) rank
  pub answer : SaysPlaces (later words) (rank_answer d rank lent).number (rank_entries d rank lent)

-- PLACES
pub record StateEnergyLine (d : Design) (words configuration : List ℕ) : Type 0 where
  pub first : Places (word words) configuration
  pub answer : SaysDouble (later words) (state_energy_answer d configuration)

-- PLACES; the sum as it is, and times RT
pub record ChainEnergyLine (d : Design) (words configuration : List ℕ) : Type 0 where
  pub first : Places (word words) configuration
  pub answer :
      Says (later words) (chain_energy_answer d configuration).number
      (to_bits binary64 (chain_energy_answer d configuration).figure.bare ∷ to_bits binary64 (chain_energy_answer d configuration).figure.times_rt ∷ [])

-- no words: the energy of the search
abbrev pub SearchLine : Design → List ℕ → List ℕ → Type 0
SearchLine d words lent = SaysDouble words (search_answer d lent)

-- no words: the configuration that the search settles on
abbrev pub SettledLine : Design → List ℕ → List ℕ → Type 0
SettledLine d words lent = SaysPlaces words (search_answer d lent).number (search_entries d lent)
