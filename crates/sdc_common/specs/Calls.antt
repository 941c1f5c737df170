-- The calls of this crate: their checks, and what they give.
use Rattle.std.specs.Prelude.{Bool, not, ◌||◌, List, [], ◌∷◌, ℕ, ◌*◌, eqb, ltb, length, false, Result, Ok, Err}
use Rattle.reply.specs.Number.{number_of, answered, reply_number}
use Rattle.reply.specs.First.{Check, ◌if◌, first_of, answer}
use Rattle.reply.specs.declared.Refusal.{Refusal}
use Rattle.reply.specs.declared.Refusal.TheVariants.{WrongSize, TooManyGlues}
use Rattle.sdc_common.specs.Names.{base_length, is_from}
use Rattle.sdc_common.specs.Lent.{Names, Glue, part_of, unfit_name, unfit_names, glues_of}
use Rattle.sdc_common.specs.Numbers.{bases_of, numbers_among}
use Rattle.sdc_common.specs.declared.NameBase.{NameBase}

-- ---- a name's base

-- document 01's number, the base's start and length, and whether the name stands for the base
pub record NameFigures : Type 0 where
  pub number : ℕ
  pub start : ℕ
  pub size : ℕ
  pub from : Bool

-- a refusal carries no other figure
abbrev pub refused_name : ℕ → NameFigures
refused_name number = record { number = number; start = 0; size = 0; from = false }

-- an answer
abbrev pub given_name : ℕ → ℕ → Bool → NameFigures
given_name start size from = record { number = answered; start = start; size = size; from = from }

-- an answer of the code as its number and figures
abbrev pub name_figures : Result NameBase Refusal → NameFigures
name_figures (Ok base) = given_name base.part.start base.part.size base.is_base
name_figures (Err refusal) = refused_name (number_of refusal)

-- what is refused of a name
abbrev pub name_checks : List ℕ → ℕ → ℕ → List Check
name_checks text start size = WrongSize if unfit_name text start size ∷ []

-- the answer of `self_and_inverse`
unfoldable pub self_and_inverse : List ℕ → ℕ → ℕ → NameFigures
self_and_inverse text start size =
    let spelled = part_of text start size in
    answer (first_of (name_checks text start size)) refused_name (given_name start (base_length spelled) (is_from spelled))

-- ---- numbers of names among those of the strands

-- document 01's number, and how many base names the strands use
pub record NumbersFigures : Type 0 where
  pub number : ℕ
  pub bases : ℕ

-- a refusal carries no other figure
abbrev pub refused_numbers : ℕ → NumbersFigures
refused_numbers number = record { number = number; bases = 0 }

-- an answer
abbrev pub given_numbers : ℕ → NumbersFigures
given_numbers bases = record { number = answered; bases = bases }

-- an answer of the code as its number and figures
abbrev pub numbers_figures : Result ℕ Refusal → NumbersFigures
numbers_figures (Ok bases) = given_numbers bases
numbers_figures (Err refusal) = refused_numbers (number_of refusal)

-- user strands in a build: 0 to 61
abbrev pub too_many_strands : ℕ → Bool
too_many_strands users = ltb 61 users

-- three glues for each user strand: west, bottom, east
abbrev pub unfit_strands : ℕ → List ℕ → Names → Bool
unfit_strands users text strands = too_many_strands users || unfit_names (3 * users) text strands

-- the strands' glues and the names asked for, n of them, with a slice of n numbers
abbrev pub numbers_checks : ℕ → List ℕ → Names → Names → ℕ → List Check
numbers_checks users text strands names lent =
    WrongSize if (unfit_strands users text strands || unfit_names lent text names)
    ∷ []

-- the answer of `name_numbers`
unfoldable pub name_numbers : ℕ → List ℕ → Names → Names → ℕ → NumbersFigures
name_numbers users text strands names lent =
    answer (first_of (numbers_checks users text strands names lent)) refused_numbers (given_numbers (length (bases_of (glues_of text strands))))

-- a refusal leaves the lent slice as it was
unfoldable pub numbers_after : ℕ → List ℕ → Names → Names → List ℕ → List ℕ
numbers_after users text strands names lent =
    answer (first_of (numbers_checks users text strands names (length lent))) (λ number. lent) (numbers_among (glues_of text strands) (glues_of text names))

-- ---- the strands' own glues

-- document 01: "the strands use more than 31 base names"
abbrev pub too_many_bases : List Glue → Bool
too_many_bases strands = ltb 31 (length (bases_of strands))

-- what is refused of the strands' glues, with a slice lent for their numbers
abbrev pub glue_checks : ℕ → List ℕ → Names → ℕ → List Check
glue_checks users text strands lent =
    WrongSize if (unfit_strands users text strands || not (eqb lent (3 * users)))
    ∷ TooManyGlues if too_many_bases (glues_of text strands)
    ∷ []

-- the number of a reply that says no place
abbrev pub result_number : Result Unit Refusal → ℕ
result_number (Ok u) = answered
result_number (Err refusal) = number_of refusal

-- document 01's number of the reply of `strand_glues`
unfoldable pub strand_glues : ℕ → List ℕ → Names → ℕ → ℕ
strand_glues users text strands lent = reply_number (first_of (glue_checks users text strands lent))

-- what `strand_glues` leaves in the lent slice: on a refusal, what it held
unfoldable pub glues_after : ℕ → List ℕ → Names → List ℕ → List ℕ
glues_after users text strands lent =
    answer (first_of (glue_checks users text strands (length lent))) (λ number. lent) (numbers_among (glues_of text strands) (glues_of text strands))
