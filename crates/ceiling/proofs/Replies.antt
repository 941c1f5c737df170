-- What the reply of the checks says of a call on a ceiling, and what is then answered. Assumes nothing.
use mathlib.Core.Path.{◌≡◌, refl}
use mathlib.Core.Bool.{Bool, not}
use mathlib.Core.List.{List}
use Prim.Native.Nat.{ℕ}
use lib.Dec.{eqb}
use lib.ListN.{length}
use lib.Ieee.{Float}
use Rattle.reply.specs.First.{Check, first_of, ◌or_else◌}
use Rattle.reply.specs.Figures.{Figures}
use Rattle.reply.proofs.First.{reply-append}
use Rattle.std.specs.Result.{IsErrAnd}
use Rattle.std.proofs.lemmas.Result.{err_from_is_err_and}
use Rattle.reply.specs.declared.Refused.{Refused}
use Rattle.units.specs.declared.KcalPerMol.{KcalPerMol}
use Rattle.design.specs.Answers.{energy_figures}
use Rattle.design.specs.Design.{Design, positions}
use Rattle.design.specs.Checks.{ranged_checks}
use Rattle.ceiling.specs.Ceiling.{finite}
use Rattle.ceiling.specs.Answers.{counted_checks, counted_answer, counted_entries, ceiling_checks, ceiling_answer, ceiling_entries}
use Rattle.std.specs.Prelude.{Ok, Result, Err}
use Rattle.reply.specs.Number.{Reply}

-- ---- the whole list, by what the tables and the ceiling reply

module _ (d : Design) (ceiling : Float) (entries : List ℕ) where
  -- whether the call's own size is wrong
  abbrev pub own_size : Bool
  own_size = not (eqb (length entries) (positions d))

  abbrev ranged : Bool → List Check
  ranged out = ranged_checks own_size out d.scaffold d.marks d.glues d.dg d.ds d.amounts

  pub ceiling-then : {told : Reply} → first_of (ranged (not (finite ceiling))) ≡ told → first_of (ceiling_checks d ceiling entries) ≡ told or_else first_of (counted_checks d ceiling)
  ceiling-then e = reply-append (ranged (not (finite ceiling))) (counted_checks d ceiling) e

  -- a refusal of theirs is the answer
  pub ceiling-refused : {refused : Refused} (told : Result KcalPerMol Refused) → IsErrAnd told (λ (e : Refused). e ≡ refused) → first_of (ranged (not (finite ceiling))) ≡ Err refused → energy_figures told ≡ ceiling_answer d ceiling entries
  ceiling-refused told e t = let p = err_from_is_err_and told e in rw (p.1, p.2, ceiling-then t)

  -- and nothing is written
  pub ceiling-kept : {refused : Refused} → first_of (ranged (not (finite ceiling))) ≡ Err refused → entries ≡ ceiling_entries d ceiling entries
  ceiling-kept t = rw (ceiling-then t) refl

  -- what is answered once the tables pass is answered
  pub ceiling-counted : {figures : Figures Float} {after : List ℕ} → first_of (ranged (not (finite ceiling))) ≡ Ok tt → figures ≡ counted_answer d ceiling → after ≡ counted_entries d ceiling entries
      → (figures ≡ ceiling_answer d ceiling entries) × (after ≡ ceiling_entries d ceiling entries)
  ceiling-counted e f g = rw (ceiling-then e) (f, g)
