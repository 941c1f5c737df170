-- Document 01's bench table: the line on names that is marked as proved, through the whole of `from_params`. Letters are their bytes: a is 97,
-- the star 42.
use Rattle.std.specs.Prelude.{◌≡◌, refl, List, [], ◌∷◌, ℕ, replicate, set, Float, None}
use Rattle.doubles.specs.Decimal.{plus, minus, nearest, zero}
use Rattle.lists.specs.Build.{tabulate}
use Rattle.lists.specs.Find.{any, first_index}
use Rattle.lists.specs.Fold.{foldl}
use Rattle.sdc_common.specs.Names.{base_length, base_of, stars_of, same_name}
use Rattle.sdc_common.specs.Lent.{names_of, part_of, glue_of, glues_of, unfit_glue, unfit_names, is_retired_glue}
use Rattle.sdc_common.specs.Numbers.{learn, bases_of, base_number, glue_number, numbers_among}
use Rattle.sdc_common.specs.Spelled.{known_names, is_unknown, spelled_number}
use Rattle.sdc1d_params.specs.Entries.{entries_of, unfit_entries}
use Rattle.sdc1d_params.specs.Tables.{duplicated, empty_table, dg_table, ds_table}
use Rattle.sdc1d_params.specs.Params.{Params, Outcome, writes_of, wrong_size, any_retired, strand_glues_of, from_params}
use Rattle.sdc1d_params.specs.declared.Build.{Build}
use Rattle.sdc1d_params.specs.declared.Build.TheVariants.{Ordinary, Archive}
use Rattle.units.specs.declared.Ambient.{Ambient}
use Rattle.design.specs.Design.{design}
use Rattle.design.specs.declared.Amounts.{Amounts}
use Rattle.built.specs.Fits.{design_of, WrittenSymmetric}

-- The text is `a**`. One strand, whose west glue is the `a`; one scaffold position, whose name is the first so many bytes; no energy entry,
-- no penalty, no quencher and no reporter.
abbrev pub one_strand : ℕ → Params
one_strand bytes =
    record {
      text = 97 ∷ 42 ∷ 42 ∷ [];
      users = 1;
      strands = names_of (1 ∷ 0 ∷ 1 ∷ 0 ∷ 0 ∷ 0 ∷ 0 ∷ 0 ∷ 0 ∷ []);
      scaffold = names_of (1 ∷ 0 ∷ bytes ∷ []);
      entries = entries_of [] [];
      penalty_dg = zero;
      penalty_ds = zero;
      quencher = None;
      reporter = None;
    }

-- what is lent, with something in each place: glues for strand 0, the strand, quencher and reporter, one scaffold glue, and two tables
abbrev pub lent : Outcome
lent = record { number = 0; strand_glues = replicate 12 9; scaffold_glues = 9 ∷ []; dg = replicate 4096 (nearest (minus 15 1)); ds = replicate 4096 (nearest (plus 25 2)) }

-- scaffold name `a**`, strands use `a`: 6 in both builds, and all that was lent is as it was
pub line-a-two-stars :
    (build : Build) → from_params build (one_strand 3) lent ≡ record { number = 6; strand_glues = lent.strand_glues; scaffold_glues = lent.scaffold_glues; dg = lent.dg; ds = lent.ds }
unfolding from_params wrong_size unfit_names unfit_glue unfit_entries any tabulate glues_of glue_of part_of is_unknown known_names bases_of foldl learn base_of base_length same_name
line-a-two-stars build = refl

-- Added: the same with `a*` is answered, in both builds. Its glue is 2, that of the strand 1, and every cell is 0.0.
pub line-a-one-star :
    (build : Build)
    → from_params build (one_strand 2) lent
    ≡ record { number = 0; strand_glues = 0 ∷ 0 ∷ 0 ∷ 1 ∷ 0 ∷ 0 ∷ 0 ∷ 0 ∷ 0 ∷ 0 ∷ 0 ∷ 0 ∷ []; scaffold_glues = 2 ∷ []; dg = empty_table; ds = empty_table }
unfolding from_params wrong_size unfit_names unfit_glue unfit_entries any tabulate glues_of glue_of part_of is_unknown known_names bases_of foldl learn base_of base_length same_name writes_of duplicated strand_glues_of numbers_among glue_number base_number stars_of spelled_number first_index dg_table ds_table any_retired is_retired_glue
line-a-one-star Ordinary = refl
line-a-one-star Archive = refl

-- Document 02: a strand that uses `a**` is refused by an ordinary build, and all that was lent is as it was; the archive's reduces it to `a`.
abbrev pub starred_strand : Params
starred_strand =
    record {
      text = 97 ∷ 42 ∷ 42 ∷ [];
      users = 1;
      strands = names_of (1 ∷ 0 ∷ 3 ∷ 0 ∷ 0 ∷ 0 ∷ 0 ∷ 0 ∷ 0 ∷ []);
      scaffold = names_of (1 ∷ 0 ∷ 1 ∷ []);
      entries = entries_of [] [];
      penalty_dg = zero;
      penalty_ds = zero;
      quencher = None;
      reporter = None;
    }

-- the ordinary build: 21
pub line-strand-two-stars :
    from_params Ordinary starred_strand lent ≡ record { number = 21; strand_glues = lent.strand_glues; scaffold_glues = lent.scaffold_glues; dg = lent.dg; ds = lent.ds }
unfolding from_params wrong_size unfit_names unfit_glue unfit_entries any tabulate glues_of glue_of part_of is_unknown known_names bases_of foldl learn base_of base_length same_name writes_of duplicated stars_of any_retired is_retired_glue
line-strand-two-stars = refl

-- the archive's: both glues are 1
pub line-strand-two-stars-archive :
    from_params Archive starred_strand lent
    ≡ record { number = 0; strand_glues = 0 ∷ 0 ∷ 0 ∷ 1 ∷ 0 ∷ 0 ∷ 0 ∷ 0 ∷ 0 ∷ 0 ∷ 0 ∷ 0 ∷ []; scaffold_glues = 1 ∷ []; dg = empty_table; ds = empty_table }
unfolding from_params wrong_size unfit_names unfit_glue unfit_entries any tabulate glues_of glue_of part_of is_unknown known_names bases_of foldl learn base_of base_length same_name writes_of duplicated strand_glues_of numbers_among glue_number base_number stars_of spelled_number first_index dg_table ds_table
line-strand-two-stars-archive = refl

-- the same lent, but with a table of dG that is not symmetric: another double at [1][2]
abbrev pub odd : Outcome
odd = record { number = 0; strand_glues = lent.strand_glues; scaffold_glues = lent.scaffold_glues; dg = set lent.dg 66 zero; ds = lent.ds }

-- Added: what is handed on as what, and what is not said of a refusal.
pub record HandedOn : Type 0 where
  -- each of the four slices has its place in the design, dG and dS their own
  pub made : (marks : List ℕ) (amounts : List Float) (given : Amounts) (ambient : Ambient) → design_of lent marks amounts given ambient ≡ design (9 ∷ []) marks (replicate 12 9) lent.dg lent.ds amounts given ambient
  -- a refused build leaves what was lent, symmetric or not, and `WrittenSymmetric` claims nothing of it
  pub kept : (build : Build) → (from_params build (one_strand 3) odd).dg ≡ odd.dg
  pub unclaimed : (build : Build) → WrittenSymmetric build (one_strand 3) odd
