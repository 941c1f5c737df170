-- What the checks of `from_params` leave of a parameter set that is answered. Assumes nothing.
use mathlib.Core.Path.{◌≡◌, refl}
use mathlib.Core.Bool.{Bool, false, ◌||◌}
use mathlib.Core.List.{List, [], ◌∷◌}
use Prim.Native.Nat.{ℕ, ◌*◌, ◌≤◌}
use lib.Dec.{ltb}
use lib.ListN.{length}
use borrow.Author.Tests.{ltb-false}
use Rattle.lists.specs.Find.{any}
use Rattle.lists.specs.Each.{Each}
use Rattle.lists.proofs.Tests.{neither}
use Rattle.lists.proofs.Each.{each_all, each_map}
use Rattle.reply.specs.Number.{answered}
use Rattle.reply.specs.First.{Check, first_of}
use Rattle.reply.proofs.First.{passes}
use Rattle.reply.proofs.Answer.{is-admitted}
use Rattle.sdc_common.specs.Lent.{glue_of, glues_of, unfit_names}
use Rattle.sdc_common.specs.Spelled.{is_unknown}
use Rattle.sdc_common.specs.Calls.{too_many_strands}
use Rattle.sdc_common.proofs.Fit.{as_many}
use Rattle.sdc1d_params.specs.Entries.{unfit_entries}
use Rattle.sdc1d_params.specs.Tables.{Write, write_of, cells_of, duplicated, out_of_range}
use Rattle.sdc1d_params.specs.Params.{Params, Outcome, bases, first_name, write_of_entry, writes_of, unfit_copied, unfit_scaffold, unfit_lent, wrong_size, param_checks, build_checks, built_from, left_as_lent, from_params}
use Rattle.sdc1d_params.specs.declared.Build.{Build}
use Rattle.sdc1d_params.specs.declared.Entry.{Entry}
use Rattle.sdc1d_params.proofs.Passed.{build-passes}
use Rattle.std.specs.Prelude.{Ok}
use Rattle.built.proofs.Numbers.{Small, cell-small}

numbered : (lent : Outcome) (n : ℕ) → (left_as_lent lent n).number ≡ n
numbered lent n = refl

-- seven conditions none of which holds
none-of-seven :
    (a b c d e f g : Bool)
    → (a || b || c || d || e || f || g) ≡ false
    → (a ≡ false) × (b ≡ false) × (c ≡ false) × (d ≡ false) × (e ≡ false) × (f ≡ false) × (g ≡ false)
none-of-seven a b c d e f g none =
    let t6 = neither (a || b || c || d || e || f) g none in
    let t5 = neither (a || b || c || d || e) f t6.0 in
    let t4 = neither (a || b || c || d) e t5.0 in
    let t3 = neither (a || b || c) d t4.0 in
    let t2 = neither (a || b) c t3.0 in
    let t1 = neither a b t2.0 in
    (t1.0, t1.1, t2.1, t3.1, t4.1, t5.1, t6.1)

-- a list of checks that admits has none that holds
all_pass : (checks : List Check) → first_of checks ≡ Ok tt → Each (λ c. c.holds ≡ false) checks
all_pass [] e = tt
all_pass (c ∷ cs) e = let here = passes c cs e in (here.0, all_pass cs here.1)

-- what is known of a parameter set that is answered
pub record Passed (p : Params) (lent : Outcome) : Type 0 where
  pub size : wrong_size p lent ≡ false
  pub known : any (is_unknown (bases p)) (glues_of p.text p.scaffold) ≡ false
  pub few : length (bases p) ≤ 31
  pub once : duplicated (cells_of (writes_of p)) ≡ false
  pub ranged : any out_of_range (writes_of p) ≡ false

module _ (p : Params) (lent : Outcome) where
  -- all of it, where no check holds
  pub checks-pass : first_of (param_checks p lent) ≡ Ok tt → Passed p lent
  checks-pass e =
      let none = all_pass (param_checks p lent) e in
      record { size = none.0; known = none.1.1.1.0; few = ltb-false _ _ none.1.1.1.1.0; once = none.1.1.1.1.1.0; ranged = none.1.1.1.1.1.1.0 }

  pub answered-as : (build : Build) → (from_params build p lent).number ≡ answered → Passed p lent × (from_params build p lent ≡ built_from p)
  unfolding from_params
  answered-as build e =
      let a = is-admitted (λ (o : Outcome). o.number) (left_as_lent lent) (numbered lent) (built_from p) (first_of (build_checks build p lent)) (from_params build p lent) e refl in
      (checks-pass (build-passes build p lent a.0), a.1)

-- ---- the sizes, one by one

module _ (p : Params) (lent : Outcome) (e : wrong_size p lent ≡ false) where
  pub sizes :
      (too_many_strands p.users ≡ false)
      × (unfit_names (3 * p.users) p.text p.strands ≡ false)
      × (unfit_scaffold p lent ≡ false)
      × (unfit_entries p.text p.entries ≡ false)
      × (unfit_copied p.users p.quencher ≡ false)
      × (unfit_copied p.users p.reporter ≡ false)
      × (unfit_lent p lent ≡ false)
  unfolding wrong_size
  sizes =
      none-of-seven (too_many_strands p.users) (unfit_names (3 * p.users) p.text p.strands) (unfit_scaffold p lent) (unfit_entries p.text p.entries)
      (unfit_copied p.users p.quencher) (unfit_copied p.users p.reporter) (unfit_lent p lent) e

  pub few-users : p.users ≤ 61
  few-users = ltb-false 61 p.users sizes.0

  pub strands-many : length p.strands.each ≡ 3 * p.users
  strands-many = as_many (3 * p.users) p.text p.strands sizes.1

  pub scaffold-short : length p.scaffold.each ≤ 128
  scaffold-short =
      let n : ℕ = length lent.scaffold_glues in
      let halves = neither (ltb 128 n) (unfit_names n p.text p.scaffold) sizes.2 in
      rw (as_many n p.text p.scaffold halves.1) (ltb-false 128 n halves.0)

-- ---- the cells of the entries lie in the tables

pub writes-small : (p : Params) → length (bases p) ≤ 31 → Each (λ w. Small w.at) (writes_of p)
unfolding writes_of write_of
writes-small p few =
    each_map (λ (e : Entry). Unit) (λ (w : Write). Small w.at) (write_of_entry p)
    (λ e t. cell-small (bases p) few (first_name p e) (glue_of p.text e.second)) p.entries.each
    (each_all (λ (e : Entry). Unit) (λ e. tt) p.entries.each)
