-- Where the fault of a refused build lies: the first entry, position or strand that has it, counted from 0. proofs/Places.antt shows it of every build.
use Rattle.std.specs.Prelude.{◌≡◌, Bool, true, false, List, ℕ, ◌/◌, ◌<◌, length, get_or, take, position, Option, Some, None, Ok, Err}
use Rattle.std.specs.Option.{option_map}
use Rattle.lists.specs.Find.{any}
use Rattle.lists.specs.Build.{up_to}
use Rattle.reply.specs.Number.{Reply, reply_number}
use Rattle.reply.specs.First.{first_of, refuses}
use Rattle.reply.specs.declared.Refusal.{Refusal}
use Rattle.reply.specs.declared.Refusal.TheVariants as refusal
use Rattle.sdc_common.specs.Lent.{Glue, glues_of}
use Rattle.sdc_common.specs.Numbers.{crowds}
use Rattle.sdc_common.specs.Spelled.{is_unknown}
use Rattle.sdc1d_params.specs.Entries.{Cell, cell, same_pair, has_bad_base, is_short}
use Rattle.sdc1d_params.specs.Tables.{Write, cells_of, out_of_range}
use Rattle.sdc1d_params.specs.Params.{Params, Outcome, energies_of, strand_names, bases, writes_of, build_checks, from_params}
use Rattle.sdc1d_params.specs.declared.Build.{Build}
use Rattle.sdc1d_params.specs.declared.entries.GsOrSeq.{GsOrSeq}

-- ---- the place of each refusal

-- entry k names the pair of known names of one before it
abbrev pub repeats : List Cell → ℕ → Bool
repeats cells k = any (same_pair (get_or cells k (cell 0 0))) (take k cells)

-- each strand has three glues: the strand of the first glue with which there are more than 31 base names
unfoldable pub crowding_strand : List Glue → Option ℕ
crowding_strand glues = option_map (λ (glue : ℕ). glue / 3) (position (crowds 31 glues) (up_to (length glues)))

-- of 2, 3, 8 and 9 an entry, of 6 a position, of 7 a strand; 1 and 21 say no place, since theirs may be a number, or any name
unfoldable pub refusal_place : Params → Refusal → Option ℕ
refusal_place p refusal.NotABase = position (has_bad_base p.text) (energies_of p)
refusal_place p refusal.TooShort = position (is_short p.text) (energies_of p)
refusal_place p refusal.UnknownName = position (is_unknown (bases p)) (glues_of p.text p.scaffold)
refusal_place p refusal.TooManyGlues = crowding_strand (strand_names p)
refusal_place p refusal.DuplicatePair = position (repeats (cells_of (writes_of p))) (up_to (length (cells_of (writes_of p))))
refusal_place p refusal.OutOfRange = position out_of_range (writes_of p)
refusal_place p other = None

-- a reply with the place of its refusal
abbrev pub placed : Params → Reply → Reply
placed p (Ok u) = Ok tt
placed p (Err e) = refuses e.refusal (refusal_place p e.refusal)

-- what a build replies: the first check that fails, and where
unfoldable pub build_reply : Build → Params → Outcome → Reply
build_reply build p lent = placed p (first_of (build_checks build p lent))

-- ---- what a place is

-- one of so many, what stands there is at fault, and nothing before it
pub record FirstFault (fault : ℕ → Bool) (many : ℕ) (place : Option ℕ) : Type 0 where
  pub at : ℕ
  pub is : place ≡ Some at
  pub known : at < many
  pub here : fault at ≡ true
  pub before : (k : ℕ) → k < at → fault k ≡ false

-- the element of a list, for a test that may be asked past its end
abbrev pub at_fault : {A : Type 0} → (A → Bool) → A → List A → ℕ → Bool
at_fault test other xs k = test (get_or xs k other)

-- the replies of every build: each of these six numbers has a place, and no other number has one
pub record PlacesRight (build : Build) (p : Params) (lent : Outcome) : Type 0 where
  pub base : (place : Option ℕ) (other : GsOrSeq) → build_reply build p lent ≡ refuses refusal.NotABase place
      → FirstFault (at_fault (has_bad_base p.text) other (energies_of p)) (length (energies_of p)) place
  pub short : (place : Option ℕ) (other : GsOrSeq) → build_reply build p lent ≡ refuses refusal.TooShort place
      → FirstFault (at_fault (is_short p.text) other (energies_of p)) (length (energies_of p)) place
  pub unknown : (place : Option ℕ) (other : Glue) → build_reply build p lent ≡ refuses refusal.UnknownName place
      → FirstFault (at_fault (is_unknown (bases p)) other (glues_of p.text p.scaffold)) (length (glues_of p.text p.scaffold)) place
  -- the first of the strands' glues that is one too many, and the strand that it is one of
  pub glues : (place : Option ℕ) → build_reply build p lent ≡ refuses refusal.TooManyGlues place
      → (glue : Option ℕ) × FirstFault (crowds 31 (strand_names p)) (length (strand_names p)) glue × (place ≡ option_map (λ (k : ℕ). k / 3) glue)
  pub twice : (place : Option ℕ) → build_reply build p lent ≡ refuses refusal.DuplicatePair place
      → FirstFault (repeats (cells_of (writes_of p))) (length (cells_of (writes_of p))) place
  pub range : (place : Option ℕ) (other : Write) → build_reply build p lent ≡ refuses refusal.OutOfRange place
      → FirstFault (at_fault out_of_range other (writes_of p)) (length (writes_of p)) place
  -- 1 and 21 have none
  pub elsewhere : (place : Option ℕ) → (build_reply build p lent ≡ refuses refusal.WrongSize place → place ≡ None)
      × (build_reply build p lent ≡ refuses refusal.TwoStars place → place ≡ None)
  -- the number is that of `from_params`
  pub number : reply_number (build_reply build p lent) ≡ (from_params build p lent).number
