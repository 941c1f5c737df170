-- One sequence as the paper has it (`published_dna_dg_ds`): its neighbour pairs as in Single.antt, then the paper's terms in the order initiation,
-- first end, last end, symmetry.
use Rattle.std.specs.Prelude.{Bool, true, false, cond, ◌&&◌, List, [], ◌∷◌, ◌++◌, map, reverse, ℕ, ◌-◌, Float, get_or, length}
use Rattle.doubles.specs.Sum.{sum_from}
use Rattle.reply.specs.First.{first_of, answer}
use Rattle.utils.specs.Answers.{DgDsFigures, refused_dg_ds, given_dg_ds}
use Rattle.utils.specs.Bases.{Base, bases, complement, same}
use Rattle.utils.specs.Figures.{stack_dg, stack_ds, start_dg, printed_start_ds, end_dg, end_ds, symmetric_dg, symmetric_ds}
use Rattle.utils.specs.Single.{stack_sum, sequence_checks}
use Rattle.utils.specs.declared.bases.DnaNucleotideBase.TheVariants.{A, T, G, C}

-- a base of an A-as-T pair
abbrev pub is_a_or_t : Base → Bool
is_a_or_t A = true
is_a_or_t T = true
is_a_or_t G = false
is_a_or_t C = false

-- what the other strand reads, 5' to 3'
abbrev pub reverse_complement : List Base → List Base
reverse_complement s = map complement (reverse s)

-- two sequences are one, base by base
unfoldable pub same_bases : List Base → List Base → Bool
same_bases [] [] = true
same_bases [] (b ∷ t) = false
same_bases (a ∷ s) [] = false
same_bases (a ∷ s) (b ∷ t) = same a b && same_bases s t

-- equal to its own reverse complement; case has fallen away with the letters
unfoldable pub self_complementary : List Base → Bool
self_complementary s = same_bases (reverse_complement s) s

-- the 5' end and the 3' end; a sequence that is admitted has both
abbrev pub first_base : List Base → Base
first_base s = get_or s 0 C

abbrev pub last_base : List Base → Base
last_base s = get_or s (length s - 1) C

module _ {X : Type 0} where
  -- the term of an end, if its pair is A-as-T
  abbrev pub end_term : X → Base → List X
  end_term term b = cond (is_a_or_t b) (term ∷ []) []

  -- the term of a self-complementary sequence
  abbrev pub symmetry_term : X → List Base → List X
  symmetry_term term s = cond (self_complementary s) (term ∷ []) []

  -- the terms after the pairs, whatever their figures are
  unfoldable pub terms_after : X → X → X → List Base → List X
  terms_after initiation end symmetry s = initiation ∷ (end_term end (first_base s) ++ (end_term end (last_base s) ++ symmetry_term symmetry s))

-- dG and dS, each sum one after the other from the left
unfoldable pub published_dg : List Base → Float
published_dg s = sum_from (stack_sum stack_dg s) (terms_after start_dg end_dg symmetric_dg s)

unfoldable pub published_ds : List Base → Float
published_ds s = sum_from (stack_sum stack_ds s) (terms_after printed_start_ds end_ds symmetric_ds s)

-- the answer of `published_dna_dg_ds`: refused as `string_dna_dg_ds` refuses
unfoldable pub published_dna_dg_ds : List ℕ → DgDsFigures
published_dna_dg_ds sequence =
    answer (first_of (sequence_checks sequence)) refused_dg_ds (given_dg_ds (published_dg (bases sequence)) (published_ds (bases sequence)))
