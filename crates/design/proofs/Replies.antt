-- What the reply of a call on a design says of it, and how it is put together. Assumes nothing.
use mathlib.Core.Path.{◌≡◌, refl, sym, ◌∙◌}
use mathlib.Core.Bool.{Bool, true, false}
use mathlib.Core.List.{List, [], ◌++◌}
use Rattle.lists.proofs.Tests.{neither}
use Rattle.reply.specs.Number.{Reply}
use Rattle.reply.specs.First.{Check, first_of, bare, ◌or_else◌, refused_if, refuses}
use Rattle.reply.specs.declared.Refusal.{Refusal}
use Rattle.reply.specs.declared.Refused.{Refused}
use Rattle.reply.proofs.Figures.{no-admission}
use Rattle.reply.proofs.First.{none-holds, both-pass, reply-append, joined}
use Rattle.design.specs.Design.{Design}
use Rattle.std.specs.Prelude.{ℕ, Option, None, Result, Ok, Err}
use Rattle.design.specs.Checks.{sizes_out, table_checks, number_checks, design_checks, TablesPass, Admitted}

-- a check that refuses holds, and one that lets the call pass doesn't
pub told-true : (holds : Bool) (refusal : Refusal) (place : Option ℕ) {e : Refused} → ◌≡◌ {A = Reply} (Err e) (refused_if holds refusal place (Ok tt)) → holds ≡ true
told-true holds refusal place {e} = go holds
  where
    go : (holds : Bool) → ◌≡◌ {A = Reply} (Err e) (refused_if holds refusal place (Ok tt)) → holds ≡ true
    go true told = refl
    go false told = no-admission told

pub told-false : (holds : Bool) (refusal : Refusal) (place : Option ℕ) → ◌≡◌ {A = Reply} (Ok tt) (refused_if holds refusal place (Ok tt)) → holds ≡ false
told-false holds refusal place = go holds
  where
    go : (holds : Bool) → ◌≡◌ {A = Reply} (Ok tt) (refused_if holds refusal place (Ok tt)) → holds ≡ false
    go true told = no-admission (sym told)
    go false told = refl

-- the same of a check that has no place
pub bare-false : (holds : Bool) (refusal : Refusal) → ◌≡◌ {A = Result Unit Refusal} (Ok tt) (bare (refused_if holds refusal None (Ok tt))) → holds ≡ false
bare-false true refusal told = cc
bare-false false refusal told = refl

-- a call that is admitted found nothing wrong with a size of its own, nor with the design, nor by its own checks
pub record Passed (own_size : Bool) (d : Design) (between after : List Check) : Type 0 where
  pub size : own_size ≡ false
  pub design : Admitted d
  pub own : first_of between ≡ Ok tt
  pub last : first_of after ≡ Ok tt

-- the checks of the tables alone
pub record Tabled (own_size : Bool) (d : Design) : Type 0 where
  pub size : own_size ≡ false
  pub tables : TablesPass d

pub tables-of : (d : Design) → Admitted d → TablesPass d
tables-of d a = record { sizes = a.sizes; cells = a.cells; null = a.null }

module _ (own_size : Bool) (d : Design) where
  abbrev tables : List Check
  tables = table_checks own_size d.scaffold d.marks d.glues d.dg d.ds d.amounts

  pub tabled : first_of tables ≡ Ok tt → Tabled own_size d
  tabled h =
      let none = none-holds tables h in
      let sizes = neither own_size (sizes_out d) none.0 in
      record { size = sizes.0; tables = record { sizes = sizes.1; cells = none.1.0; null = none.1.1.0 } }

  module _ (between after : List Check) where
    pub passed : first_of (design_checks own_size d between after) ≡ Ok tt → Passed own_size d between after
    passed h =
        let first = both-pass tables (between ++ (number_checks d ++ after)) h in
        let second = both-pass between (number_checks d ++ after) first.1 in
        let third = both-pass (number_checks d) after second.1 in
        let numbers = none-holds (number_checks d) third.0 in
        let t = tabled first.0 in
        record {
          size = t.size;
          design = record { sizes = t.tables.sizes; cells = t.tables.cells; concentrations = numbers.0; ambient = numbers.1.0; potentials = numbers.1.1.0; null = t.tables.null };
          own = second.0;
          last = third.1;
        }

    -- of an admitted design the call's own checks decide
    pub own-decide : own_size ≡ false → Admitted d → first_of between ≡ Ok tt → first_of (design_checks own_size d between after) ≡ first_of after
    own-decide e a b = simp (e, a.sizes, a.cells, a.null) (reply-append between (number_checks d ++ after) b ∙ simp (a.concentrations, a.ambient, a.potentials))

    -- a refusal of the tables is the call's
    pub tables-refuse : {r : Refusal} {p : Option ℕ} → first_of tables ≡ refuses r p → first_of (design_checks own_size d between after) ≡ refuses r p
    tables-refuse e = reply-append tables (between ++ (number_checks d ++ after)) e

  -- where the tables pass, the call's own checks come next, and then the numbers
  pub after-tables : (between : List Check) → first_of tables ≡ Ok tt → first_of (design_checks own_size d between []) ≡ first_of between or_else first_of (number_checks d)
  after-tables between e = reply-append tables (between ++ number_checks d) e ∙ sym (joined between (number_checks d))
