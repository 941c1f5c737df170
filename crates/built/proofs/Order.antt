-- The answer of `from_params` is the same in whatever order the energy entries stand. Assumes nothing.
use mathlib.Core.Path.{◌≡◌, refl, ap, ap₂, sym, ◌∙◌}
use mathlib.Core.Bool.{Bool, true, false, ◌&&◌, ◌||◌}
use mathlib.Core.List.Permᴰ
use mathlib.Core.List.{List, [], ◌∷◌, map, Permᴰ}
use Prim.Native.Nat.{ℕ, ◌*◌}
use lib.Dec.{ltb}
use lib.ListN.{length}
use Rattle.lists.specs.Find.{any}
use Rattle.lists.proofs.Tests.{clash, neither}
use Rattle.lists.proofs.Permuted.{length-permuted, any-permuted, map-permuted}
use Rattle.reply.specs.First.{first_of, ◌if◌, ◌or_else◌, answer}
use Rattle.reply.specs.declared.Refusal.TheVariants.{WrongSize, NotABase, TooShort, UnknownName, TooManyGlues, DuplicatePair, OutOfRange, TwoStars}
use Rattle.reply.proofs.First.{joined}
use Rattle.sdc_common.specs.Lent.{glues_of, unfit_names, is_retired_glue}
use Rattle.sdc_common.specs.Spelled.{is_unknown}
use Rattle.sdc_common.specs.Calls.{too_many_strands, too_many_bases}
use Rattle.sdc1d_params.specs.Entries.{energy_of, unfit_entry, unfit_entries, has_bad_base, is_short}
use Rattle.sdc1d_params.specs.Tables.{Write, cells_of, duplicated, out_of_range, empty_table, dg_table, ds_table}
use Rattle.sdc1d_params.specs.Params.{Params, Outcome, bases, strand_names, write_of_entry, writes_of, unfit_copied, unfit_scaffold, unfit_lent, wrong_size, param_checks, is_ordinary, is_retired_entry, any_retired, build_checks, strand_glues_of, built_from, left_as_lent, from_params}
use Rattle.sdc1d_params.specs.declared.Build.{Build}
use Rattle.sdc1d_params.specs.declared.Entry.{Entry}
use Rattle.sdc1d_params.proofs.Passed.{reply-size, build-refused, build-passes}
use Rattle.built.specs.Order.{with_entries, refused_with, OrderFree}
use Rattle.built.proofs.Exchanged.{duplicated-permuted, table-permuted}
use Rattle.std.specs.Prelude.{Ok, Err}
use Rattle.reply.specs.Number.{Reply}
use Rattle.built.proofs.Passed.{Passed, checks-pass, sizes, writes-small}

-- ---- the reply

same-reply :
    {a a' b b' c c' d d' e e' : Bool} (unknown many : Bool)
    → a ≡ a'
    → b ≡ b'
    → c ≡ c'
    → d ≡ d'
    → e ≡ e'
    → first_of (WrongSize if a ∷ NotABase if b ∷ TooShort if c ∷ UnknownName if unknown ∷ TooManyGlues if many ∷ DuplicatePair if d ∷ OutOfRange if e ∷ [])
    ≡ first_of (WrongSize if a' ∷ NotABase if b' ∷ TooShort if c' ∷ UnknownName if unknown ∷ TooManyGlues if many ∷ DuplicatePair if d' ∷ OutOfRange if e' ∷ [])
same-reply unknown many p q r s t = rw (p, q, r, s, t)

-- where a call is admitted the two results are the same, and a refusal does not look at them
same_answer : {A : Type 0} (r : Reply) (refused : ℕ → A) (given other : A) → (r ≡ Ok tt → given ≡ other) → answer r refused given ≡ answer r refused other
same_answer (Ok u) refused given other h = h refl
same_answer (Err e) refused given other h = refl

module _ (p : Params) (lent : Outcome) {entries others : List Entry} (permuted : Permᴰ entries others) where
  abbrev one : Params
  one = with_entries p entries

  abbrev two : Params
  two = with_entries p others

  entries-same : unfit_entries p.text one.entries ≡ unfit_entries p.text two.entries
  unfolding with_entries unfit_entries
  entries-same = ap₂ (λ (n : ℕ) (t : Bool). p.entries.ragged || ltb 1024 n || t) (length-permuted permuted) (any-permuted (unfit_entry p.text) permuted)

  size_same : wrong_size one lent ≡ wrong_size two lent
  unfolding wrong_size with_entries
  size_same =
      ap (λ (entries : Bool).
      too_many_strands p.users
      || unfit_names (3 * p.users) p.text p.strands
      || unfit_scaffold p lent
      || entries
      || unfit_copied p.users p.quencher
      || unfit_copied p.users p.reporter
      || unfit_lent p lent) entries-same

  energies : Permᴰ (map energy_of entries) (map energy_of others)
  energies = map-permuted energy_of permuted

  writes : Permᴰ (map (write_of_entry p) entries) (map (write_of_entry p) others)
  writes = map-permuted (write_of_entry p) permuted

  pairs-same : duplicated (cells_of (writes_of one)) ≡ duplicated (cells_of (writes_of two))
  unfolding writes_of with_entries
  pairs-same = duplicated-permuted (map-permuted (λ (w : Write). w.at) writes)

  ranges-same : any out_of_range (writes_of one) ≡ any out_of_range (writes_of two)
  unfolding writes_of with_entries
  ranges-same = any-permuted out_of_range writes

  reply-same : first_of (param_checks one lent) ≡ first_of (param_checks two lent)
  unfolding with_entries
  reply-same =
      same-reply (any (is_unknown (bases p)) (glues_of p.text p.scaffold)) (too_many_bases (strand_names p)) size_same
      (any-permuted (has_bad_base p.text) energies) (any-permuted (is_short p.text) energies)
      pairs-same ranges-same

  -- ---- what is written

  module _ (passed : Passed one lent) where
    dg-same : dg_table (writes_of one) ≡ dg_table (writes_of two)
    unfolding dg_table writes_of with_entries
    dg-same = table-permuted (λ (w : Write). w.dg) writes (writes-small one passed.few) passed.once empty_table

    ds-same : ds_table (writes_of one) ≡ ds_table (writes_of two)
    unfolding ds_table writes_of with_entries
    ds-same = table-permuted (λ (w : Write). w.ds) writes (writes-small one passed.few) passed.once empty_table

    outcome-same : built_from one ≡ built_from two
    unfolding with_entries strand_glues_of
    outcome-same = rw (dg-same, ds-same)

  stars-same : (build : Build) → (is_ordinary build && any_retired one) ≡ (is_ordinary build && any_retired two)
  unfolding with_entries any_retired
  stars-same build = ap (λ (t : Bool). is_ordinary build && (any is_retired_glue (strand_names p) || t)) (any-permuted (is_retired_entry p.text) permuted)

  build-same : (build : Build) → first_of (build_checks build one lent) ≡ first_of (build_checks build two lent)
  build-same build =
      sym (joined (param_checks one lent) (TwoStars if (is_ordinary build && any_retired one) ∷ []))
      ∙ ap₂ (λ (r : Reply) (t : Bool). r or_else first_of (TwoStars if t ∷ [])) reply-same (stars-same build)
      ∙ joined (param_checks two lent) (TwoStars if (is_ordinary build && any_retired two) ∷ [])

  same : (build : Build) → from_params build one lent ≡ from_params build two lent
  unfolding from_params
  same build =
      same_answer (first_of (build_checks build one lent)) (left_as_lent lent) (built_from one) (built_from two) (λ e. outcome-same (checks-pass one lent (build-passes build one lent e)))
      ∙ ap (λ (r : Reply). answer r (left_as_lent lent) (built_from two)) (build-same build)

-- ---- any parameter set

every : (p : Params) → with_entries p p.entries.each ≡ p
unfolding with_entries
every p = refl

whole : (p : Params) (lent : Outcome) → wrong_size p lent ≡ false → p.entries.ragged ≡ false
unfolding unfit_entries
whole p lent e =
    let entries = neither (p.entries.ragged || ltb 1024 (length p.entries.each)) (any (unfit_entry p.text) p.entries.each) (sizes p lent e).3 in
    (neither p.entries.ragged (ltb 1024 (length p.entries.each)) entries.0).0

uneven : (build : Build) (p : Params) (lent : Outcome) → p.entries.ragged ≡ true → from_params build p lent ≡ refused_with WrongSize lent
unfolding from_params
uneven build p lent e =
    go (wrong_size p lent) refl
  where
    go : (t : Bool) → wrong_size p lent ≡ t → answer (first_of (build_checks build p lent)) (left_as_lent lent) (built_from p) ≡ refused_with WrongSize lent
    go true w = ap (λ (r : Reply). answer r (left_as_lent lent) (built_from p)) (sym (build-refused build p lent WrongSize (reply-size p lent w)))
    go false w = absurd (clash (whole p lent w) e)

pub order-free : OrderFree
order-free =
    record {
      neighbours = λ build p lent before after x y. same p lent (Permᴰ.append_left before (Permᴰ.swap refl refl)) build;
      any_order = λ build p lent entries others permuted. same p lent permuted build;
      every = every;
      uneven = uneven;
    }
