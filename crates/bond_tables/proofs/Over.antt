-- What the reply of a call over tables says of it, and that it is the design's where the tables pass. Assumes nothing.
use mathlib.Core.Path.{◌≡◌, refl, sym, ap, ◌∙◌}
use mathlib.Core.Bool.{Bool, true, false, ◌||◌, false≢true, true≢false}
use mathlib.Core.List.{List, [], ◌∷◌, ◌++◌}
use Prim.Native.Nat.{ℕ}
use lib.Dec.{ltb}
use lib.Ieee.{Float}
use Rattle.lists.specs.Find.{any}
use Rattle.lists.proofs.Tests.{neither}
use Rattle.reply.specs.First.{Check, first_of, ◌if◌, ◌if◌at◌, ◌or_else◌, bare, refused_if, refuses}
use Rattle.reply.specs.declared.Refusal.{Refusal}
use Rattle.reply.specs.declared.Refusal.TheVariants.{WrongSize, OutOfRange, NullBinds}
use Rattle.reply.proofs.First.{none-holds, both-pass}
use Rattle.design.specs.Design.{Design, positions, strands}
use Rattle.design.specs.Checks.{high_glue, wrong_lengths, wrong_marks, wrong_sizes, sizes_out, cells_out, bad_cell, null_binds, ranged_checks, number_checks, design_checks, Admitted}
use Rattle.design.proofs.Replies.{own-decide}
use Rattle.bond_tables.specs.Tables.{wrong_tables, bonds_out}
use Rattle.std.specs.Prelude.{None, Result, Ok, Err}
use Rattle.reply.specs.Number.{Reply}
use Rattle.bond_tables.specs.Answers.{fill_checks, over_checks}

-- a call that is admitted found nothing wrong with a size of its own, the tables, the design, nor by its own checks
pub record PassedOver (own_size : Bool) (d : Design) (t u : List Float) (own : List Check) : Type 0 where
  pub size : own_size ≡ false
  pub tables : wrong_tables d t u ≡ false
  pub cells : bonds_out t u ≡ false
  pub design : Admitted d
  pub mine : first_of own ≡ Ok tt

-- the checks of tables of which nothing is wrong are those of the design
module _ (own sizes cells null : Bool) (place : ℕ) (rest : List Check) where
  same_first : (tables bonds : Bool) → tables ≡ false → bonds ≡ false
      → first_of (WrongSize if ((own || tables) || sizes) ∷ OutOfRange if cells at place ∷ OutOfRange if bonds ∷ NullBinds if null ∷ rest)
      ≡ first_of (WrongSize if (own || sizes) ∷ OutOfRange if cells at place ∷ NullBinds if null ∷ rest)
  same_first true bonds e f = absurd (true≢false e)
  same_first false true e f = absurd (true≢false f)
  same_first false false e f = go own
    where
      go : (own : Bool)
          → first_of (WrongSize if ((own || false) || sizes) ∷ OutOfRange if cells at place ∷ OutOfRange if false ∷ NullBinds if null ∷ rest)
          ≡ first_of (WrongSize if (own || sizes) ∷ OutOfRange if cells at place ∷ NullBinds if null ∷ rest)
      go true = refl
      go false = refl

-- where a bond cell is out, the sizes and cells alone decide
ranged-refuses : (own tables sizes cells bonds null : Bool) (place : ℕ) (rest : List Check) (next : Reply) → tables ≡ false → bonds ≡ true
    → first_of (WrongSize if (own || sizes) ∷ OutOfRange if cells at place ∷ OutOfRange if true ∷ NullBinds if null ∷ []) or_else next
    ≡ first_of (WrongSize if ((own || tables) || sizes) ∷ OutOfRange if cells at place ∷ OutOfRange if bonds ∷ NullBinds if null ∷ rest)
ranged-refuses own true sizes cells bonds null place rest next e f = absurd (true≢false e)
ranged-refuses own false sizes cells false null place rest next e f = absurd (false≢true f)
ranged-refuses true false sizes cells true null place rest next e f = refl
ranged-refuses false false true cells true null place rest next e f = refl
ranged-refuses false false false true true null place rest next e f = refl
ranged-refuses false false false false true null place rest next e f = refl

-- tables of a wrong length, or a design of too many positions or strands
sizes-told : (long many tables own few rest : Bool) → (long || (many || tables)) ≡ true → ((own || tables) || ((long || (few || many)) || rest)) ≡ true
sizes-told long many tables true few rest e = refl
sizes-told long many true false few rest e = refl
sizes-told true many false false few rest e = refl
sizes-told false true false false true rest e = refl
sizes-told false true false false false rest e = refl
sizes-told false false false false few rest e = absurd (false≢true e)

-- the same beside the design's own sizes alone
filled-sizes : (long many tables few rest : Bool) → ((long || (many || tables)) || ((long || (few || many)) || rest)) ≡ (tables || ((long || (few || many)) || rest))
filled-sizes true many true few rest = refl
filled-sizes true many false few rest = refl
filled-sizes false true true few rest = refl
filled-sizes false true false true rest = refl
filled-sizes false true false false rest = refl
filled-sizes false false tables few rest = refl

size-first : (size : Bool) (rest : List Check) → size ≡ true → refuses WrongSize None ≡ first_of (WrongSize if size ∷ rest)
size-first size rest e = rw e

-- a check without a place that refuses holds, and its refusal is the one given
pub bare-true : (holds : Bool) (refusal : Refusal) {e : Refusal} → ◌≡◌ {A = Result Unit Refusal} (Err e) (bare (refused_if holds refusal None (Ok tt))) → (holds ≡ true) × (e ≡ refusal)
bare-true true refusal told = (refl, cc)
bare-true false refusal told = absurd cc

-- replies put together, where one of them is known
pub told-by : (r s next full : Reply) → r or_else next ≡ full → r ≡ s → full ≡ s or_else next
told-by r s next full e f = sym e ∙ ap (λ (x : Reply). x or_else next) f

-- the conditions of 1 after the counts
abbrev other_sizes : Design → Bool
other_sizes d = wrong_lengths d.glues d.dg d.ds d.amounts || (wrong_marks d.scaffold d.marks || (any high_glue d.scaffold || any high_glue d.glues))

module _ (d : Design) (t u : List Float) where
  -- the code's test of the tables' lengths
  abbrev pub Wrong : Bool
  Wrong = ltb 128 (positions d) || (ltb 64 (strands d) || wrong_tables d t u)

  pub not-wrong : Wrong ≡ false → wrong_tables d t u ≡ false
  not-wrong e = (neither (ltb 64 (strands d)) (wrong_tables d t u) (neither (ltb 128 (positions d)) (ltb 64 (strands d) || wrong_tables d t u) e).1).1

  pub fill-told : {wrong : Bool} {reply : Reply} → wrong ≡ Wrong → reply ≡ first_of (design_checks wrong d [] []) → first_of (fill_checks d t u) ≡ reply
  unfolding wrong_sizes
  fill-told {wrong} {reply} e f =
      let sizes : (wrong || sizes_out d) ≡ (wrong_tables d t u || sizes_out d) = ap (λ (b : Bool). b || sizes_out d) e ∙ filled-sizes (ltb 128 (positions d)) (ltb 64 (strands d)) (wrong_tables d t u) (ltb (strands d) 1) (other_sizes d) in
      let rest = OutOfRange if cells_out d.dg d.ds at bad_cell d.dg d.ds ∷ NullBinds if null_binds d.glues d.dg d.ds ∷ number_checks d in
      sym (f ∙ ap (λ (b : Bool). first_of (WrongSize if b ∷ rest)) sizes)

module _ (own_size : Bool) (d : Design) (t u : List Float) (own : List Check) where
  pub wrong-told : Wrong d t u ≡ true → refuses WrongSize None ≡ first_of (over_checks own_size d t u own)
  unfolding wrong_sizes
  wrong-told e =
      size-first ((own_size || wrong_tables d t u) || sizes_out d)
      (OutOfRange if cells_out d.dg d.ds at bad_cell d.dg d.ds ∷ OutOfRange if bonds_out t u ∷ NullBinds if null_binds d.glues d.dg d.ds ∷ (own ++ number_checks d))
      (sizes-told (ltb 128 (positions d)) (ltb 64 (strands d)) (wrong_tables d t u) own_size (ltb (strands d) 1) (other_sizes d) e)

  pub range-told : wrong_tables d t u ≡ false → bonds_out t u ≡ true → (next : Reply)
      → first_of (ranged_checks own_size true d.scaffold d.marks d.glues d.dg d.ds d.amounts) or_else next ≡ first_of (over_checks own_size d t u own)
  range-told e f next =
      ranged-refuses own_size (wrong_tables d t u) (sizes_out d) (cells_out d.dg d.ds) (bonds_out t u) (null_binds d.glues d.dg d.ds) (bad_cell d.dg d.ds) (own ++ number_checks d) next e f

  pub passed_over : first_of (over_checks own_size d t u own) ≡ Ok tt → PassedOver own_size d t u own
  passed_over h =
      let ranged = ranged_checks (own_size || wrong_tables d t u) (bonds_out t u) d.scaffold d.marks d.glues d.dg d.ds d.amounts in
      let first = both-pass ranged (own ++ number_checks d) h in
      let second = both-pass own (number_checks d) first.1 in
      let none = none-holds ranged first.0 in
      let numbers = none-holds (number_checks d) second.1 in
      let sizes = neither (own_size || wrong_tables d t u) (sizes_out d) none.0 in
      let mine = neither own_size (wrong_tables d t u) sizes.0 in
      record {
        size = mine.0;
        tables = mine.1;
        cells = none.1.1.0;
        design = record { sizes = sizes.1; cells = none.1.0; concentrations = numbers.0; ambient = numbers.1.0; potentials = numbers.1.1.0; null = none.1.1.1.0 };
        mine = second.0;
      }

  pub same-checks : wrong_tables d t u ≡ false → bonds_out t u ≡ false → first_of (over_checks own_size d t u own) ≡ first_of (design_checks own_size d own [])
  same-checks e f =
      same_first own_size (sizes_out d) (cells_out d.dg d.ds) (null_binds d.glues d.dg d.ds) (bad_cell d.dg d.ds) (own ++ number_checks d) (wrong_tables d t u) (bonds_out t u) e f

  pub over-admits : PassedOver own_size d t u own → first_of (over_checks own_size d t u own) ≡ Ok tt
  over-admits p = same-checks p.tables p.cells ∙ own-decide own_size d own [] p.size p.design p.mine
