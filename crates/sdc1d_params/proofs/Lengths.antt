-- The conditions of the size check, in the order in which the code looks at them, and what it leaves. Assumes nothing.
use mathlib.Core.Path.{◌≡◌, refl, sym, ap, ap₂, ◌∙◌}
use mathlib.Core.Bool.{Bool, true, false, cond, not, ◌||◌}
use mathlib.Core.List.{List, [], ◌∷◌, map}
use Prim.Native.Nat.{ℕ, ◌*◌, ◌%◌, ◌<◌, ◌≤◌}
use native.Mathlib.Omega.{arith}
use lib.Dec.{eqb, ltb}
use lib.Ieee.{Float}
use lib.ListN.{length}
use borrow.Author.Tests.{le-ltb, eqb-true, eqb-false, ltb-false, not-false}
use Rattle.lists.specs.Find.{any}
use Rattle.lists.proofs.Tests.{neither}
use Rattle.lists.proofs.Build.{length-tabulate}
use Rattle.lists.proofs.Counted.{any-fails}
use Rattle.sdc_common.specs.Lent.{unfit_name, unfit_glue, unfit_names}
use Rattle.sdc_common.specs.Calls.{unfit_strands}
use Rattle.sdc_common.specs.inner.Fit.{Fit}
use Rattle.sdc1d_params.specs.Entries.{energy_of, bad_form, unfit_energy, unfit_entry, entry_at, entry_rows, entries_of, unfit_entries}
use Rattle.sdc1d_params.specs.inner.Cells.{first_of}
use Rattle.std.specs.Prelude.{Option, Some, None, is_some, position}
use Rattle.lists.proofs.Find.{first-map}
use Rattle.lists.proofs.Searches.{position_is, position_some, position_none}
use Rattle.sdc1d_params.specs.Params.{Params, Outcome, unfit_copied, unfit_lent, wrong_size}
use Rattle.sdc1d_params.specs.declared.Entry.{Entry}

-- the value of a test or another: where the first holds, and where it does not
pub joined : {first said value : Bool} (other : Bool) → first ≡ said → said ≡ true → value ≡ said → value ≡ (first || other)
joined other f s v = v ∙ s ∙ sym (ap (λ (b : Bool). b || other) (f ∙ s))

pub passed-on : {first other said value : Bool} → first ≡ said → said ≡ false → value ≡ other → value ≡ (first || other)
passed-on {first} {other} f s v = v ∙ sym (ap (λ (b : Bool). b || other) (f ∙ s))

-- a test of what is read off each of a list
pub any-map : {A B : Type 0} (p : B → Bool) (g : A → B) (xs : List A) → any (λ x. p (g x)) xs ≡ any p (map g xs)
unfolding any
any-map p g [] = refl
any-map p g (x ∷ xs) = ap (λ (b : Bool). p (g x) || b) (any-map p g xs)

-- and where the first stands
pub position-map : {A B : Type 0} (p : B → Bool) (g : A → B) (xs : List A) → position (λ x. p (g x)) xs ≡ position p (map g xs)
position-map p g xs =
    position_is (λ x. p (g x)) xs
    ∙ ap₂ (λ (t : Bool) (k : ℕ). cond t (Some k) None) (any-map p g xs) (sym (first-map p g xs))
    ∙ sym (position_is p (map g xs))

-- some passes where there is a first
pub some-place : {A : Type 0} (p : A → Bool) (xs : List A) (place : Option ℕ) → place ≡ position p xs → is_some place ≡ any p xs
some-place p xs None e = sym (position_none p xs (sym e))
some-place p xs (Some k) e = sym (position_some p xs (sym e)).0

-- ---- all conditions

entries-out : (x e q r l : Bool) → e ≡ false → (x || e || q || r || l) ≡ (x || (q || r || l))
entries-out true e q r l h = refl
entries-out false e q r l h = rw h

module _ (p : Params) (lent : Outcome) (few : length lent.scaffold_glues ≤ 128) (fit : unfit_entries p.text p.entries ≡ false) where
  -- as they are looked at, where the positions are not too many and the entries fit
  pub size-looked :
      wrong_size p lent
      ≡ (unfit_strands p.users p.text p.strands || unfit_names (length lent.scaffold_glues) p.text p.scaffold
      || (unfit_copied p.users p.quencher || unfit_copied p.users p.reporter || unfit_lent p lent))
  unfolding wrong_size
  size-looked = rw (le-ltb 128 (length lent.scaffold_glues) few)
      (entries-out (unfit_strands p.users p.text p.strands || unfit_names (length lent.scaffold_glues) p.text p.scaffold) (unfit_entries p.text p.entries) (unfit_copied p.users p.quencher) (unfit_copied p.users p.reporter) (unfit_lent p lent) fit)

-- ---- what the check leaves

pub record Sized (p : Params) (lent : Outcome) : Type 0 where
  pub strands : unfit_strands p.users p.text p.strands ≡ false
  pub scaffold : unfit_names (length lent.scaffold_glues) p.text p.scaffold ≡ false
  pub entries : unfit_entries p.text p.entries ≡ false
  pub quencher : unfit_copied p.users p.quencher ≡ false
  pub reporter : unfit_copied p.users p.reporter ≡ false
  pub lengths : unfit_lent p lent ≡ false

pub sized : (p : Params) (lent : Outcome) → wrong_size p lent ≡ false → Sized p lent
unfolding wrong_size
sized p lent e =
    let w5 = neither _ (unfit_lent p lent) e in
    let w4 = neither _ (unfit_copied p.users p.reporter) w5.0 in
    let w3 = neither _ (unfit_copied p.users p.quencher) w4.0 in
    let w2 = neither _ (unfit_entries p.text p.entries) w3.0 in
    let w1 = neither (unfit_strands p.users p.text p.strands) (ltb 128 (length lent.scaffold_glues) || unfit_names (length lent.scaffold_glues) p.text p.scaffold) w2.0 in
    let w0 = neither (ltb 128 (length lent.scaffold_glues)) (unfit_names (length lent.scaffold_glues) p.text p.scaffold) w1.1 in
    record { strands = w1.0; scaffold = w0.1; entries = w2.1; quencher = w3.1; reporter = w4.1; lengths = w5.1 }

-- a strand that is copied is one of the users'
pub copied-fits : (users k : ℕ) → unfit_copied users (Some k) ≡ false → (1 ≤ k) × (k ≤ users)
copied-fits users k e =
    let two = neither (eqb k 0) (ltb users k) e in
    let some : k ≡ 0 → ⊥ = eqb-false k 0 two.0 in
    (at_least k some, ltb-false users k two.1)
  where
    at_least : (n : ℕ) → (n ≡ 0 → ⊥) → 1 ≤ n
    at_least n h = omega arith

-- ---- entries

-- an entry's two names and its energy
module _ (text : List ℕ) (e : Entry) where
  -- the first name is always there
  pub first-unfit : unfit_glue text (first_of e) ≡ unfit_name text e.first.start e.first.size
  unfolding unfit_glue
  first-unfit = refl

  module _ (fit : unfit_entry text e ≡ false) where
    parts : ((unfit_name text e.first.start e.first.size || unfit_glue text e.second) ≡ false) × (unfit_energy text (energy_of e) ≡ false)
    unfolding unfit_entry
    parts =
        let w = neither _ (unfit_energy text (energy_of e)) fit in
        ((neither (unfit_name text e.first.start e.first.size || unfit_glue text e.second) (bad_form e.form) w.0).0, w.1)

    pub first-fit : Fit text (first_of e)
    first-fit = first-unfit ∙ (neither (unfit_name text e.first.start e.first.size) (unfit_glue text e.second) parts.0).0

    pub second-fit : Fit text e.second
    second-fit = (neither (unfit_name text e.first.start e.first.size) (unfit_glue text e.second) parts.0).1

    pub energy-fit : unfit_energy text (energy_of e) ≡ false
    energy-fit = parts.1

-- what is known of entries that are fit: two doubles for each row, and each entry fit
pub record FitEntries (text numbers : List ℕ) (doubles : List Float) : Type 0 where
  pub many : length doubles ≡ 2 * entry_rows numbers
  pub each : (k : ℕ) → k < entry_rows numbers → unfit_entry text (entry_at numbers doubles k) ≡ false

pub fit-entries : (text numbers : List ℕ) (doubles : List Float) → unfit_entries text (entries_of numbers doubles) ≡ false → FitEntries text numbers doubles
unfolding unfit_entries
fit-entries text numbers doubles e =
    let w2 = neither _ (any (unfit_entry text) (entries_of numbers doubles).each) e in
    let w1 = neither (entries_of numbers doubles).ragged (ltb 1024 (length (entries_of numbers doubles).each)) w2.0 in
    let w0 = neither (not (eqb (length numbers % 8) 0)) (not (eqb (length doubles) (2 * entry_rows numbers))) w1.0 in
    record { many = eqb-true _ _ (not-false _ w0.1); each = any-fails (unfit_entry text) (entry_rows numbers) (entry_at numbers doubles) w2.1 }

pub few-entries : (text numbers : List ℕ) (doubles : List Float) → unfit_entries text (entries_of numbers doubles) ≡ false → entry_rows numbers ≤ 1024
unfolding unfit_entries
few-entries text numbers doubles e =
    let w2 = neither _ (any (unfit_entry text) (entries_of numbers doubles).each) e in
    let w1 = neither (entries_of numbers doubles).ragged (ltb 1024 (length (entries_of numbers doubles).each)) w2.0 in
    let many = length-tabulate (entry_rows numbers) (entry_at numbers doubles) in
    let few = ltb-false 1024 (length (entries_of numbers doubles).each) w1.1 in
    omega (arith, many, few)
