-- Sequences of entries: where they end, and what the sequence call says of them. Assumes nothing.
use mathlib.Core.Path.{◌≡◌, refl, ap, sym, ◌∙◌}
use mathlib.Core.Bool.{Bool, true, false, ◌||◌}
use mathlib.Core.List.{List}
use Prim.Native.Nat.{ℕ, ◌+◌, ◌≤◌}
use native.Mathlib.Omega.{arith}
use lib.Dec.{ltb}
use lib.ListN.{length}
use borrow.Author.Tests.{ltb-false, le-ltb}
use Rattle.lists.specs.Find.{any}
use Rattle.lists.proofs.Tests.{neither}
use Rattle.reply.specs.Number.{number_of}
use Rattle.reply.specs.First.{first_of, refused_if, nowhere}
use Rattle.reply.proofs.Answer.{is-admitted, is-refused}
use Rattle.reply.specs.declared.Refusal.{Refusal}
use Rattle.reply.specs.declared.Refused.{Refused}
use Rattle.reply.specs.declared.Refusal.TheVariants.{NotABase, TooShort}
use Rattle.doubles.specs.Decimal.{zero}
use Rattle.utils.specs.Answers.{DgDsFigures, given_dg_ds, refused_dg_ds, dg_ds_figures}
use Rattle.utils.specs.Bases.{not_a_base}
use Rattle.utils.specs.Single.{too_long, too_short, sequence_checks, string_dna_dg_ds}
use Rattle.sdc_common.specs.Lent.{part_of, leaves}
use Rattle.sdc_common.proofs.Held.{part_length}
use Rattle.sdc1d_params.specs.Entries.{energy_of, unfit_energy, unfit_entry}
use Rattle.sdc_common.specs.declared.names.Part.{Part}
use Rattle.sdc1d_params.specs.declared.Entry.{Entry}
use Rattle.sdc1d_params.specs.declared.entries.GsOrSeq.{GsOrSeq}
use Rattle.sdc1d_params.specs.declared.entries.GsOrSeq.TheVariants.{Sequence}
use Rattle.sdc1d_params.proofs.Lengths.{energy-fit}
use Rattle.std.specs.Prelude.{None, Some, Result, Ok, Err}
use Rattle.std.specs.Option.{option_eq}
use Rattle.std.specs.Result.{result_err, ResultUnwrapsOrElse}
use Rattle.utils.specs.declared.DgDs.{DgDs}
use lib.Ieee.{Float}

module _ (text : List ℕ) (part : Part) (fit : unfit_energy text (Sequence part) ≡ false) where
  halves : (leaves text part.start part.size ≡ false) × (too_long (part_of text part.start part.size) ≡ false)
  halves = neither (leaves text part.start part.size) (too_long (part_of text part.start part.size)) fit

  -- it lies in the text
  in-text : leaves text part.start part.size ≡ false
  in-text = halves.0

  pub short-as-lent : ltb part.size 2 ≡ too_short (part_of text part.start part.size)
  short-as-lent = rw (part_length text part.start part.size (ltb-false (length text) (part.start + part.size) in-text))

  pub not-long : too_long (part_of text part.start part.size) ≡ false
  not-long = halves.1

-- the sequence of an entry that is fit
pub sequence-fit : (text : List ℕ) (e : Entry) → unfit_entry text e ≡ false → (part : Part) → energy_of e ≡ Sequence part → unfit_energy text (Sequence part) ≡ false
sequence-fit text e fit part is = sym (ap (unfit_energy text) is) ∙ energy-fit text e fit

-- and it lies in the text, as the code reads it off
pub sequence-in : (text : List ℕ) (e : Entry) → unfit_entry text e ≡ false → {read : GsOrSeq} → read ≡ energy_of e → (part : Part) → read ≡ Sequence part → leaves text part.start part.size ≡ false
sequence-in text e fit r part is = in-text text part (sequence-fit text e fit part (sym r ∙ is))

-- what a part of the text is where it leaves it not
pub long-as-lent : (text : List ℕ) (start size : ℕ) → leaves text start size ≡ false → ltb 256 size ≡ (leaves text start size || too_long (part_of text start size))
long-as-lent text start size e = let h : start + size ≤ length text = ltb-false (length text) (start + size) e in rw (le-ltb (length text) (start + size) h, part_length text start size h)

figures-numbered : (n : ℕ) → (refused_dg_ds n).number ≡ n
figures-numbered n = refl

module _ (s : List ℕ) (fine : too_long s ≡ false) where
  given-step : (b t : Bool) → refused_if b NotABase None (refused_if t TooShort None (Ok tt)) ≡ Ok tt → b ≡ false
  given-step true t e = absurd (let z : ◌≡◌ {A = ℕ} 0 1 = cc in omega arith)
  given-step false t e = refl

  -- figures of an answer that is given are of a sequence whose bytes are bases
  pub given-good : (dg ds : Float) → given_dg_ds dg ds ≡ string_dna_dg_ds s → any not_a_base s ≡ false
  unfolding string_dna_dg_ds
  given-good dg ds e =
      let a = is-admitted (λ (f : DgDsFigures). f.number) refused_dg_ds figures-numbered _ (first_of (sequence_checks s)) (given_dg_ds dg ds) refl e in
      given-step (any not_a_base s) (too_short s) (sym (rw fine) ∙ a.0)

  module _ (test : Refusal → Bool) (bad : test NotABase ≡ true) (short : test TooShort ≡ false) where
    refused-step : (b : Bool) (r : Refused) (t : Bool) → refused_if b NotABase None (refused_if t TooShort None (Ok tt)) ≡ Err r → test r.refusal ≡ b
    refused-step true r t e = let same : nowhere NotABase ≡ r = cc in rw (← same) bad
    refused-step false r true e = let same : nowhere TooShort ≡ r = cc in rw (← same) short
    refused-step false r false e = absurd (let z : ◌≡◌ {A = ℕ} 0 1 = cc in omega arith)

    -- a refusal is that of a bad base exactly where there is one, by any test that tells it from that of a short sequence
    pub refused-bad : (r : Refusal) → refused_dg_ds (number_of r) ≡ string_dna_dg_ds s → test r ≡ any not_a_base s
    unfolding string_dna_dg_ds
    refused-bad r e =
        let reply = is-refused (λ (f : DgDsFigures). f.number) refused_dg_ds figures-numbered _ (first_of (sequence_checks s)) r refl e in
        ap test (sym reply.1.1) ∙ refused-step (any not_a_base s) reply.0 (too_short s) (sym (rw fine) ∙ reply.1.0)

  -- the refusal that an answer may be, told from that of a short sequence
  pub bad-told : (E : Refusal → Refusal → Bool) (r : Result DgDs Refusal) (t : Bool) → t ≡ option_eq E (result_err r) (Some NotABase) → E NotABase NotABase ≡ true → E TooShort NotABase ≡ false → dg_ds_figures r ≡ string_dna_dg_ds s → t ≡ any not_a_base s
  bad-told E (Ok sums) t e bad short h = e ∙ sym (given-good sums.dg.0 sums.ds.0 h)
  bad-told E (Err why) t e bad short h = e ∙ refused-bad (λ r. E r NotABase) bad short why h

-- the figures of an answer, or zeros in the place of those of a refusal
pub taken :
    (s : List ℕ) (r : Result DgDs Refusal) (x : DgDs)
    → ResultUnwrapsOrElse r (λ d. (d.dg.0 ≡ zero) × (d.ds.0 ≡ zero)) x
    → dg_ds_figures r ≡ string_dna_dg_ds s
    → (x.dg.0 ≡ (string_dna_dg_ds s).dg) × (x.ds.0 ≡ (string_dna_dg_ds s).ds)
taken s (Ok sums) x e h = (ap (λ (y : DgDs). y.dg.0) e ∙ ap (λ (f : DgDsFigures). f.dg) h, ap (λ (y : DgDs). y.ds.0) e ∙ ap (λ (f : DgDsFigures). f.ds) h)
taken s (Err why) x e h = (e.0 ∙ ap (λ (f : DgDsFigures). f.dg) h, e.1 ∙ ap (λ (f : DgDsFigures). f.ds) h)
