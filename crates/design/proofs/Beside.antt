-- The places of a call that finds something out of range that is no cell: a bond over tables, a ceiling. Assumes nothing.
use mathlib.Core.Path.{◌≡◌, refl, sym, subst}
use mathlib.Core.Logic.{◌⊎◌, inl, inr}
use mathlib.Core.Bool.{Bool, true, false, ◌||◌}
use mathlib.Core.List.{List, ◌++◌}
use Prim.Native.Nat.{ℕ}
use Rattle.std.specs.Prelude.{Option, None}
use Rattle.reply.specs.Number.{Reply}
use Rattle.reply.specs.First.{Check, first_of, refused_if, refuses}
use Rattle.reply.specs.declared.Refusal.{Refusal}
use Rattle.reply.specs.declared.Refusal.TheVariants.{WrongSize, OutOfRange}
use Rattle.design.specs.Design.{Design}
use Rattle.design.specs.Checks.{sizes_out, cells_out, ranged_checks, number_checks, design_checks}
use Rattle.design.specs.Places.{PlacesRight, PlacesBeside}
use Rattle.design.proofs.Places.{Placeless, refusal-place, places-right}

-- a refusal by the sizes, or by what is no cell
unplaced : (size : Bool) (r : Refusal) (p : Option ℕ) → refused_if size WrongSize None (refuses OutOfRange None) ≡ refuses r p → p ≡ None
unplaced true r p e = sym (refusal-place e)
unplaced false r p e = sym (refusal-place e)

module _ (d : Design) (own_size own_range : Bool) (between after : List Check) where
  abbrev beside : Reply
  beside = first_of (ranged_checks own_size own_range d.scaffold d.marks d.glues d.dg d.ds d.amounts ++ (between ++ (number_checks d ++ after)))

  same-reply : (own_range ≡ false) ⊎ (cells_out d.dg d.ds ≡ true) → beside ≡ first_of (design_checks own_size d between after)
  same-reply (inl e) = rw e refl
  same-reply (inr e) = rw e refl

  pub places-beside : Placeless between → Placeless after → PlacesBeside d own_range beside
  places-beside b a = record {
    right = λ e. subst (PlacesRight d) (sym (same-reply e)) (places-right d own_size between after b a);
    nowhere = λ out none r p e. unplaced (own_size || sizes_out d) r p (rw (out, none) at e);
  }
