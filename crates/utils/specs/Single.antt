-- One sequence (`string_dna_dg_ds`): its neighbour pairs summed left to right from 0.0, then the initiation.
use Rattle.std.specs.Prelude.{Bool, List, [], ◌∷◌, map, ℕ, ltb, Float, length}
use Rattle.std.specs.Float.{binary64}
use Rattle.std.specs.Float.Ieee.{add}
use Rattle.lists.specs.Find.{any}
use Rattle.doubles.specs.Decimal.{zero}
use Rattle.doubles.specs.Sum.{sum_from}
use Rattle.reply.specs.First.{Check, ◌if◌, first_of, answer}
use Rattle.reply.specs.declared.Refusal.TheVariants.{WrongSize, NotABase, TooShort}
use Rattle.utils.specs.Answers.{DgDsFigures, refused_dg_ds, given_dg_ds}
use Rattle.utils.specs.Bases.{Base, bases, not_a_base}
use Rattle.utils.specs.Figures.{stack_dg, stack_ds, start_dg, start_ds}

-- two neighbours, 5' to 3'
pub record Neighbours : Type 0 where
  pub first : Base
  pub second : Base

-- each base with the next one
unfoldable pub neighbours : List Base → List Neighbours
neighbours [] = []
neighbours (a ∷ []) = []
neighbours (a ∷ b ∷ s) = record { first = a; second = b } ∷ neighbours (b ∷ s)

-- a figure of two neighbours
abbrev pub at_neighbours : (Base → Base → Float) → Neighbours → Float
at_neighbours f n = f n.first n.second

-- a figure of each stack, summed left to right from 0.0, without the initiation
unfoldable pub stack_sum : (Base → Base → Float) → List Base → Float
stack_sum f s = sum_from zero (map (at_neighbours f) (neighbours s))

-- sequences: 256 bases
abbrev pub too_long : List ℕ → Bool
too_long sequence = ltb 256 (length sequence)

-- fewer than 2 bases: refusal 3
abbrev pub too_short : List ℕ → Bool
too_short sequence = ltb (length sequence) 2

-- what is refused of one sequence
abbrev pub sequence_checks : List ℕ → List Check
sequence_checks sequence =
    WrongSize if too_long sequence
    ∷ NotABase if any not_a_base sequence
    ∷ TooShort if too_short sequence
    ∷ []

-- the answer of `string_dna_dg_ds`
unfoldable pub string_dna_dg_ds : List ℕ → DgDsFigures
string_dna_dg_ds sequence =
    answer (first_of (sequence_checks sequence)) refused_dg_ds
    (given_dg_ds (add binary64 (stack_sum stack_dg (bases sequence)) start_dg) (add binary64 (stack_sum stack_ds (bases sequence)) start_ds))
