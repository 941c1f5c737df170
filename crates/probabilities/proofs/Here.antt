-- The lists of one occupant at one position, and the size of the tables. Assumes nothing.
use mathlib.Core.Path.{◌≡◌, refl, ap, ◌∙◌}
use mathlib.Core.Bool.{Bool, true, false, cond, ◌||◌}
use mathlib.Core.List.{List, [], ◌∷◌, ◌++◌}
use lib.IntN.{ℤ}
use Prim.Native.Nat.{ℕ, ◌+◌}
use lib.Dec.{eqb, ltb}
use lib.ListN.{length}
use Rattle.lists.proofs.Build.{length-tabulate}
use Rattle.lists.specs.Find.{any}
use Rattle.reply.specs.Number.{Reply}
use Rattle.reply.specs.First.{first_of, ◌if◌, ◌if◌at◌}
use Rattle.reply.specs.declared.Refusal.TheVariants.{WrongSize, OutOfRange, NullBinds}
use Rattle.design.specs.Design.{Design, positions, strands}
use Rattle.design.specs.Checks.{high_glue, wrong_lengths, wrong_marks, wrong_sizes, sizes_out, cells_out, bad_cell, null_binds, number_checks}
use Rattle.probabilities.specs.Answers.{bare_checks, energy_checks}
use Rattle.probabilities.specs.Occupants.{only_here, wrong_entries, occupants_reply}

-- ---- the lists

pub length-here : (n i x : ℕ) → length (only_here n i x) ≡ n
unfolding only_here
length-here n i x = length-tabulate n (λ k. cond (eqb k i) (x ∷ []) [])

-- ---- the size

-- beside the sizes of a design, those of the tables say the same with its limits and without
same-sizes : (long many tables few rest : Bool) → ((long || (many || tables)) || ((long || (few || many)) || rest)) ≡ (tables || ((long || (few || many)) || rest))
same-sizes true many true few rest = refl
same-sizes true many false few rest = refl
same-sizes false true true few rest = refl
same-sizes false true false true rest = refl
same-sizes false true false false rest = refl
same-sizes false false tables few rest = refl

-- the conditions of 1 after the counts
abbrev other_sizes : Design → Bool
other_sizes d = wrong_lengths d.glues d.dg d.ds d.amounts || (wrong_marks d.scaffold d.marks || (any high_glue d.scaffold || any high_glue d.glues))

module _ (d : Design) (digits : List ℕ) (powers : List ℤ) where
  pub occupants-told : {wrong : Bool} {reply : Reply} → wrong ≡ (ltb 128 (positions d) || (ltb 64 (strands d) || wrong_entries d digits powers)) → reply ≡ first_of (energy_checks wrong d) → reply ≡ occupants_reply d digits powers
  unfolding wrong_sizes
  occupants-told {wrong} {reply} e f =
      let sizes : (wrong || sizes_out d) ≡ (wrong_entries d digits powers || sizes_out d) = ap (λ (b : Bool). b || sizes_out d) e ∙ same-sizes (ltb 128 (positions d)) (ltb 64 (strands d)) (wrong_entries d digits powers) (ltb (strands d) 1) (other_sizes d) in
      let rest = OutOfRange if cells_out d.dg d.ds at bad_cell d.dg d.ds ∷ NullBinds if null_binds d.glues d.dg d.ds ∷ (number_checks d ++ bare_checks d) in
      f ∙ ap (λ (b : Bool). first_of (WrongSize if b ∷ rest)) sizes
