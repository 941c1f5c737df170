-- `from_params`: what it refuses, and the glues and tables that it gives.
use Rattle.std.specs.Prelude.{Bool, true, false, not, ◌&&◌, ◌||◌, List, [], ◌∷◌, ◌++◌, map, ℕ, ◌+◌, ◌-◌, ◌*◌, eqb, ltb, Float, length, get_or, Option, Some, None}
use Rattle.lists.specs.Find.{any}
use Rattle.reply.specs.Number.{answered}
use Rattle.reply.specs.First.{Check, ◌if◌, first_of, answer}
use Rattle.reply.specs.declared.Refusal.TheVariants.{WrongSize, NotABase, TooShort, UnknownName, TooManyGlues, DuplicatePair, OutOfRange, TwoStars}
use Rattle.utils.specs.declared.DgDs.{DgDs}
use Rattle.sdc_common.specs.Names.{Name, is_retired}
use Rattle.sdc_common.specs.Lent.{Names, names_of, Glue, part_of, glue_of, glues_of, unfit_names, is_retired_glue}
use Rattle.sdc_common.specs.Numbers.{bases_of, numbers_among}
use Rattle.sdc_common.specs.Spelled.{is_unknown, spelled_number}
use Rattle.sdc_common.specs.Calls.{too_many_strands, too_many_bases}
use Rattle.sdc1d_params.specs.Entries.{Cell, cell_of, energy_of, Entries, entries_of, unfit_entries, has_bad_base, is_short}
use Rattle.sdc1d_params.specs.Tables.{Write, write_of, cells_of, duplicated, out_of_range, dg_table, ds_table}
use Rattle.sdc1d_params.specs.declared.Build.{Build}
use Rattle.sdc1d_params.specs.declared.Build.TheVariants.{Ordinary, Archive}
use Rattle.sdc1d_params.specs.declared.Copies.{Copies}
use Rattle.sdc1d_params.specs.declared.LentParameters.{LentParameters}
use Rattle.sdc1d_params.specs.declared.Entry.{Entry}
use Rattle.sdc1d_params.specs.declared.entries.GsOrSeq.{GsOrSeq}

-- a parameter set as it is lent
pub record Params : Type 0 where
  pub text : List ℕ
  pub users : ℕ
  pub strands : Names
  pub scaffold : Names
  pub entries : Entries
  pub penalty_dg : Float
  pub penalty_ds : Float
  pub quencher : Option ℕ
  pub reporter : Option ℕ

-- what is lent to be written, and what it holds at the end, with document 01's number
pub record Outcome : Type 0 where
  pub number : ℕ
  pub strand_glues : List ℕ
  pub scaffold_glues : List ℕ
  pub dg : List Float
  pub ds : List Float

-- a parameter set out of its parts, in the order in which C lends them: names and entries are read off their rows here
abbrev pub params_of : List ℕ → ℕ → List ℕ → List ℕ → List ℕ → List Float → DgDs → Copies → Params
params_of text users strands scaffold entries energies penalty copies =
    record {
      text = text;
      users = users;
      strands = names_of strands;
      scaffold = names_of scaffold;
      entries = entries_of entries energies;
      penalty_dg = penalty.dg.0;
      penalty_ds = penalty.ds.0;
      quencher = copies.quencher;
      reporter = copies.reporter;
    }

-- a parameter set as it is lent as one
abbrev pub params_lent : LentParameters → Params
params_lent l = params_of l.text.now l.users l.strands.now l.scaffold.now l.entries.now l.energies.now l.penalty l.copies

-- an outcome out of its number and the four slices
abbrev pub outcome_of : ℕ → List ℕ → List ℕ → List Float → List Float → Outcome
outcome_of number strand_glues scaffold_glues dg ds = record { number = number; strand_glues = strand_glues; scaffold_glues = scaffold_glues; dg = dg; ds = ds }

-- what is lent to be written, as it comes
abbrev pub lent_of : List ℕ → List ℕ → List Float → List Float → Outcome
lent_of strand_glues scaffold_glues dg ds = outcome_of answered strand_glues scaffold_glues dg ds

-- ---- what the names and entries are

-- the names of the strands' glues: west, bottom, east of each
abbrev pub strand_names : Params → List Glue
strand_names p = glues_of p.text p.strands

-- the base names that the strands use
abbrev pub bases : Params → List Name
bases p = bases_of (strand_names p)

-- the first name of an entry
abbrev pub first_name : Params → Entry → Name
first_name p e = part_of p.text e.first.start e.first.size

-- the cell that an entry is for
abbrev pub cell_of_entry : Params → Entry → Cell
cell_of_entry p e = cell_of (bases p) (first_name p e) (glue_of p.text e.second)

-- what an entry writes
abbrev pub write_of_entry : Params → Entry → Write
write_of_entry p e = write_of p.text p.penalty_dg p.penalty_ds (cell_of_entry p e) (energy_of e)

-- what the entries write, in order
unfoldable pub writes_of : Params → List Write
writes_of p = map (write_of_entry p) p.entries.each

-- what the entries give, in order
abbrev pub energies_of : Params → List GsOrSeq
energies_of p = map energy_of p.entries.each

-- ---- sizes

-- a quencher or a reporter that is no user strand; these are numbered from 1
abbrev pub unfit_copied : ℕ → Option ℕ → Bool
unfit_copied users None = false
unfit_copied users (Some k) = eqb k 0 || ltb users k

-- a scaffold has 0 to 128 positions
abbrev pub unfit_scaffold : Params → Outcome → Bool
unfit_scaffold p lent = ltb 128 (length lent.scaffold_glues) || unfit_names (length lent.scaffold_glues) p.text p.scaffold

-- the lent glues and tables are not as long as what is written: strand 0, the user strands, quencher and reporter; 64 rows of 64
abbrev pub unfit_lengths : ℕ → ℕ → ℕ → ℕ → Bool
unfit_lengths users glues dg ds = not (eqb glues (3 * (users + 3))) || not (eqb dg 4096) || not (eqb ds 4096)

-- a lent slice is not as long as what is written
abbrev pub unfit_lent : Params → Outcome → Bool
unfit_lent p lent = unfit_lengths p.users (length lent.strand_glues) (length lent.dg) (length lent.ds)

-- document 01's refusal 1 of a build
unfoldable pub wrong_size : Params → Outcome → Bool
wrong_size p lent =
    too_many_strands p.users
    || unfit_names (3 * p.users) p.text p.strands
    || unfit_scaffold p lent
    || unfit_entries p.text p.entries
    || unfit_copied p.users p.quencher
    || unfit_copied p.users p.reporter
    || unfit_lent p lent

-- ---- the reply

-- what is refused of a build
abbrev pub param_checks : Params → Outcome → List Check
param_checks p lent =
    WrongSize if wrong_size p lent
    ∷ NotABase if any (has_bad_base p.text) (energies_of p)
    ∷ TooShort if any (is_short p.text) (energies_of p)
    ∷ UnknownName if any (is_unknown (bases p)) (glues_of p.text p.scaffold)
    ∷ TooManyGlues if too_many_bases (strand_names p)
    ∷ DuplicatePair if duplicated (cells_of (writes_of p))
    ∷ OutOfRange if any out_of_range (writes_of p)
    ∷ []

-- ---- names that retire

-- a name of an entry ends in two or more stars: the first, or the second where it is there, whether or not the names are known
abbrev pub is_retired_entry : List ℕ → Entry → Bool
is_retired_entry text e = is_retired (part_of text e.first.start e.first.size) || is_retired_glue (glue_of text e.second)

-- a strand's or an entry's name does. Scaffold names follow the old rule.
unfoldable pub any_retired : Params → Bool
any_retired p = any is_retired_glue (strand_names p) || any (is_retired_entry p.text) p.entries.each

-- the archive's build takes old designs with such names
abbrev pub is_ordinary : Build → Bool
is_ordinary Ordinary = true
is_ordinary Archive = false

-- what is refused of a build of either kind: an ordinary one also names that retire
abbrev pub build_checks : Build → Params → Outcome → List Check
build_checks build p lent = param_checks p lent ++ (TwoStars if (is_ordinary build && any_retired p) ∷ [])

-- ---- what is written

-- a glue of user strand k: side 0 is west, 1 bottom, 2 east
abbrev pub glue_of_strand : List ℕ → ℕ → ℕ → ℕ
glue_of_strand numbers k side = get_or numbers (3 * (k - 1) + side) 0

-- "the quencher copies west and bottom of its strand with east 0"
abbrev pub quencher_glues : List ℕ → Option ℕ → List ℕ
quencher_glues numbers None = 0 ∷ 0 ∷ 0 ∷ []
quencher_glues numbers (Some k) = glue_of_strand numbers k 0 ∷ glue_of_strand numbers k 1 ∷ 0 ∷ []

-- "the reporter bottom and east with west 0"
abbrev pub reporter_glues : List ℕ → Option ℕ → List ℕ
reporter_glues numbers None = 0 ∷ 0 ∷ 0 ∷ []
reporter_glues numbers (Some k) = 0 ∷ glue_of_strand numbers k 1 ∷ glue_of_strand numbers k 2 ∷ []

-- strand 0 has no glue; then the user strands from 1, the quencher, the reporter
abbrev pub with_copies : List ℕ → Option ℕ → Option ℕ → List ℕ
with_copies numbers quencher reporter = (0 ∷ 0 ∷ 0 ∷ []) ++ numbers ++ quencher_glues numbers quencher ++ reporter_glues numbers reporter

-- the glues of all strands, three for each
unfoldable pub strand_glues_of : Params → List ℕ
strand_glues_of p = with_copies (numbers_among (strand_names p) (strand_names p)) p.quencher p.reporter

-- all that a build writes
abbrev pub built_from : Params → Outcome
built_from p =
    record {
      number = answered;
      strand_glues = strand_glues_of p;
      scaffold_glues = map (spelled_number (bases p)) (glues_of p.text p.scaffold);
      dg = dg_table (writes_of p);
      ds = ds_table (writes_of p);
    }

-- a refusal leaves what was lent as it was
abbrev pub left_as_lent : Outcome → ℕ → Outcome
left_as_lent lent number = record { number = number; strand_glues = lent.strand_glues; scaffold_glues = lent.scaffold_glues; dg = lent.dg; ds = lent.ds }

-- the call: the first check that fails refuses
unfoldable pub from_params : Build → Params → Outcome → Outcome
from_params build p lent = answer (first_of (build_checks build p lent)) (left_as_lent lent) (built_from p)
