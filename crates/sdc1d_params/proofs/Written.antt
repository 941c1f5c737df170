-- What the call gives at each return. Assumes nothing.
use mathlib.Core.Path.{◌≡◌, refl, ap, ap₂, sym, ◌∙◌}
use mathlib.Core.Bool.{Bool, true, false, not, ◌||◌}
use mathlib.Core.List.{List, map}
use Prim.Native.Nat.{ℕ, ◌+◌, ◌*◌, ◌<◌}
use lib.Dec.{eqb}
use lib.Ieee.{Float}
use lib.ListN.{length, replicate}
use borrow.Author.Tests.{eqb-true, not-false, lt-ltb}
use Rattle.doubles.specs.Decimal as doubles
use Rattle.lists.specs.Find.{any}
use Rattle.lists.specs.Fold.{foldl}
use Rattle.lists.specs.Build.{tabulate}
use Rattle.lists.proofs.Tests.{neither}
use Rattle.reply.specs.Number.{number_of, answered, Reply}
use Rattle.reply.specs.First.{first_of, refused_if, answer, refuses}
use Rattle.reply.specs.declared.Refusal.{Refusal}
use Rattle.reply.specs.declared.Refusal.TheVariants.{WrongSize, NotABase, TooShort, UnknownName, TooManyGlues, DuplicatePair, OutOfRange}
use Rattle.sdc_common.specs.Lent.{glues_of}
use Rattle.sdc_common.specs.Numbers.{numbers_among}
use Rattle.sdc_common.specs.Spelled.{is_unknown, spelled_number}
use Rattle.sdc_common.specs.Calls.{unfit_strands, too_many_bases}
use Rattle.sdc1d_params.specs.Entries.{Cell, entry_at, entry_rows, unfit_entries, has_bad_base, is_short}
use Rattle.sdc1d_params.specs.Tables.{Write, cells_of, duplicated, out_of_range, write_dg, write_ds, empty_table, dg_table, ds_table}
use Rattle.sdc1d_params.specs.inner.Cells.{write_at}
use Rattle.sdc1d_params.specs.Params.{Params, Outcome, outcome_of, energies_of, strand_names, bases, writes_of, unfit_copied, unfit_lent, unfit_scaffold, wrong_size, param_checks, build_checks, with_copies, strand_glues_of, from_params}
use Rattle.sdc1d_params.specs.inner.Checked.{Checked}
use Rattle.sdc1d_params.specs.declared.Build.{Build}
use Rattle.sdc1d_params.proofs.Lengths.{Sized, sized}
use Rattle.std.specs.Prelude.{Option, None, Ok}
use Rattle.sdc1d_params.proofs.Passed.{never, reply-size, build-refused, build-passes, written}

conditions-step :
    (a b c d e f g : Bool)
    → refused_if a WrongSize None (refused_if b NotABase None (refused_if c TooShort None (refused_if d UnknownName None (refused_if e TooManyGlues None (refused_if f DuplicatePair None (refused_if g OutOfRange None (Ok tt))))))) ≡ Ok tt
    → (a ≡ false) × (e ≡ false)
conditions-step true b c d e f g h = never WrongSize h
conditions-step false true c d e f g h = never NotABase h
conditions-step false false true d e f g h = never TooShort h
conditions-step false false false true e f g h = never UnknownName h
conditions-step false false false false true f g h = never TooManyGlues h
conditions-step false false false false false f g h = (refl, refl)

module _ (p : Params) (lent : Outcome) where
  -- a refusal leaves what was lent
  pub kept : (build : Build) (why : Refusal) {place : Option ℕ} → first_of (build_checks build p lent) ≡ refuses why place → outcome_of (number_of why) lent.strand_glues lent.scaffold_glues lent.dg lent.ds ≡ from_params build p lent
  unfolding from_params
  kept build why e = ap (λ (r : Reply). answer r (λ n. outcome_of n lent.strand_glues lent.scaffold_glues lent.dg lent.ds) (outcome_of answered (strand_glues_of p) (map (spelled_number (bases p)) (glues_of p.text p.scaffold)) (dg_table (writes_of p)) (ds_table (writes_of p)))) (sym e)

  given : (build : Build) → first_of (build_checks build p lent) ≡ Ok tt → outcome_of answered (strand_glues_of p) (map (spelled_number (bases p)) (glues_of p.text p.scaffold)) (dg_table (writes_of p)) (ds_table (writes_of p)) ≡ from_params build p lent
  unfolding from_params
  given build e = ap (λ (r : Reply). answer r (λ n. outcome_of n lent.strand_glues lent.scaffold_glues lent.dg lent.ds) (outcome_of answered (strand_glues_of p) (map (spelled_number (bases p)) (glues_of p.text p.scaffold)) (dg_table (writes_of p)) (ds_table (writes_of p)))) (sym e)

  -- ---- what an admitted set keeps to

  conditions : first_of (param_checks p lent) ≡ Ok tt → (wrong_size p lent ≡ false) × (too_many_bases (strand_names p) ≡ false)
  conditions e =
      conditions-step (wrong_size p lent) (any (has_bad_base p.text) (energies_of p)) (any (is_short p.text) (energies_of p))
      (any (is_unknown (bases p)) (glues_of p.text p.scaffold)) (too_many_bases (strand_names p)) (duplicated (cells_of (writes_of p))) (any out_of_range (writes_of p)) e

  pub fits-tables : first_of (param_checks p lent) ≡ Ok tt → too_many_bases (strand_names p) ≡ false
  fits-tables e = (conditions e).1

  pub fits-sizes : first_of (param_checks p lent) ≡ Ok tt → Sized p lent
  fits-sizes e = sized p lent (conditions e).0

  pub fits-lengths : Sized p lent → (length lent.strand_glues ≡ 3 * (p.users + 3)) × (length lent.dg ≡ 4096) × (length lent.ds ≡ 4096)
  fits-lengths fit =
      let last = neither (not (eqb (length lent.strand_glues) (3 * (p.users + 3))) || not (eqb (length lent.dg) 4096)) (not (eqb (length lent.ds) 4096)) fit.lengths in
      let two = neither (not (eqb (length lent.strand_glues) (3 * (p.users + 3)))) (not (eqb (length lent.dg) 4096)) last.0 in
      (eqb-true _ _ (not-false _ two.0), eqb-true _ _ (not-false _ two.1), eqb-true _ _ (not-false _ last.1))

  module _ (entries : List ℕ) (energies : List Float) (same : p.entries.each ≡ tabulate (entry_rows entries) (entry_at entries energies))
      (numbers : List ℕ) (cells : List Cell) (w : Checked p entries energies numbers cells) where
    writes : tabulate (entry_rows entries) (write_at p.text entries energies p.penalty_dg p.penalty_ds cells) ≡ writes_of p
    writes = written p entries energies cells same w.cells-at

    cleared : {n : ℕ} (table : List Float) → n ≡ 4096 → table ≡ replicate n doubles.zero → table ≡ empty_table
    unfolding empty_table
    cleared table l e = e ∙ ap (λ (n : ℕ). replicate n doubles.zero) l

    dg-written : {n : ℕ} (table out : List Float) → n ≡ 4096 → table ≡ replicate n doubles.zero → out ≡ foldl write_dg table (tabulate (entry_rows entries) (write_at p.text entries energies p.penalty_dg p.penalty_ds cells)) → out ≡ dg_table (writes_of p)
    unfolding dg_table
    dg-written table out l e d = d ∙ ap₂ (λ (t : List Float) (ws : List Write). foldl write_dg t ws) (cleared table l e) writes

    ds-written : {n : ℕ} (table out : List Float) → n ≡ 4096 → table ≡ replicate n doubles.zero → out ≡ foldl write_ds table (tabulate (entry_rows entries) (write_at p.text entries energies p.penalty_dg p.penalty_ds cells)) → out ≡ ds_table (writes_of p)
    unfolding ds_table
    ds-written table out l e d = d ∙ ap₂ (λ (t : List Float) (ws : List Write). foldl write_ds t ws) (cleared table l e) writes

    strands-written : (glues : List ℕ) → glues ≡ with_copies (numbers_among (strand_names p) (strand_names p)) p.quencher p.reporter → glues ≡ strand_glues_of p
    unfolding strand_glues_of
    strands-written glues e = e

    pub all-written :
        (build : Build) (strands scaffold : List ℕ) (dg0 ds0 dg ds : List Float)
        → first_of (build_checks build p lent) ≡ Ok tt
        → strands ≡ with_copies (numbers_among (strand_names p) (strand_names p)) p.quencher p.reporter
        → scaffold ≡ numbers
        → dg0 ≡ replicate (length lent.dg) doubles.zero
        → ds0 ≡ replicate (length lent.ds) doubles.zero
        → dg ≡ foldl write_dg dg0 (tabulate (entry_rows entries) (write_at p.text entries energies p.penalty_dg p.penalty_ds cells))
        → ds ≡ foldl write_ds ds0 (tabulate (entry_rows entries) (write_at p.text entries energies p.penalty_dg p.penalty_ds cells))
        → outcome_of answered strands scaffold dg ds ≡ from_params build p lent
    all-written build strands scaffold dg0 ds0 dg ds e a b c d f g =
        let l = fits-lengths (fits-sizes (build-passes build p lent e)) in
        ap₂ (λ (x y : List ℕ). outcome_of answered x y dg ds) (strands-written strands a) (b ∙ w.spelled)
        ∙ ap₂ (λ (x y : List Float). outcome_of answered (strand_glues_of p) (map (spelled_number (bases p)) (glues_of p.text p.scaffold)) x y) (dg-written dg0 dg l.1 c f) (ds-written ds0 ds l.2 d g)
        ∙ given build e

-- ---- limits

positions-hold : (t x e q r l : Bool) → x ≡ true → (t || x || e || q || r || l) ≡ true
positions-hold true x e q r l h = refl
positions-hold false x e q r l h = rw h

entries-hold : (t x e q r l : Bool) → e ≡ true → (t || x || e || q || r || l) ≡ true
entries-hold true x e q r l h = refl
entries-hold false true e q r l h = refl
entries-hold false false e q r l h = rw h

module _ (p : Params) (lent : Outcome) where
  unfit-size : unfit_entries p.text p.entries ≡ true → wrong_size p lent ≡ true
  unfolding wrong_size
  unfit-size h =
      entries-hold (unfit_strands p.users p.text p.strands) (unfit_scaffold p lent) (unfit_entries p.text p.entries) (unfit_copied p.users p.quencher) (unfit_copied p.users p.reporter) (unfit_lent p lent) h

  many-positions : 128 < length lent.scaffold_glues → wrong_size p lent ≡ true
  unfolding wrong_size
  many-positions h =
      let over : unfit_scaffold p lent ≡ true = rw (lt-ltb 128 (length lent.scaffold_glues) h) in
      positions-hold (unfit_strands p.users p.text p.strands) (unfit_scaffold p lent) (unfit_entries p.text p.entries) (unfit_copied p.users p.quencher) (unfit_copied p.users p.reporter) (unfit_lent p lent) over

  pub entries-reply : (build : Build) → unfit_entries p.text p.entries ≡ true → refuses WrongSize None ≡ first_of (build_checks build p lent)
  entries-reply build h = build-refused build p lent WrongSize (reply-size p lent (unfit-size h))

  pub positions-reply : (build : Build) → 128 < length lent.scaffold_glues → refuses WrongSize None ≡ first_of (build_checks build p lent)
  positions-reply build h = build-refused build p lent WrongSize (reply-size p lent (many-positions h))
