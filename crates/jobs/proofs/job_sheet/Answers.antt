use Rattle.jobs.proofs.Sheets.{right, sheet-answered, unfit-tables, unfit-numbers}
use Rattle.jobs.proofs.Stretches.{stretches-kept}
use Rattle.jobs.proofs.Figures.{Unfit, energies-unfit, counts-unfit, stretch-unfit}
use Rattle.jobs.specs.Sheet.{Sheet, sheet, wrong_sheet}
use Rattle.reply.proofs.Asked.{admits}
use Rattle.reply.specs.declared.Refusal.TheVariants.{WrongSize}
use Rattle.design.specs.Design.{Design}
use Rattle.doubles.specs.Decimal.{zero}
use lib.Ieee.{of_bits}
use lib.ListN.{replicate}
use Prim.Native.Nat.{ℕ}
use mathlib.Core.Bool.{false}
use mathlib.Core.Path.{◌≡◌, sym, ap, ◌∙◌}
use Rattle.jobs.proofs.job_sheet.Goals as goal
use Rattle.jobs.proofs.job_sheet.Goals.{in_default-via-in-Ok+in-Err-1, in_default-via-in-Err-1}
use Rattle.jobs.specs.inner.Judged.{reply_of, numbers_of}
use Rattle.std.specs.Result.{is_err}
use Rattle.std.proofs.Common.{rules}
use mathlib.Core.Bool.{true}

pub returns-in_default : goal.returns-in_default
unfolding of_bits
returns-in_default c =
    let a = c.args in
    let d : Design = a.design.now in
    let s : Sheet = sheet a.jobs.now a.numbers.now a.energies.now a.counts.now a.stretches.now in
    let e : wrong_sheet d s ≡ false = rw c.positions.ensures at (sym c.wrong_sheet-wrong.ensures ∙ admits WrongSize c.wrong_sheet-wrong.result c.in_ok-refused_if.ensures) in
    let r = right d s e in
    let judged = c.judge-judged.ensures.judged_right in
    let u : Unfit d = elim c.in_default.branch [
      | in_default-via-in-Ok+in-Err-1 w ↦ let t : is_err (reply_of c.judge-judged.result) ≡ false = search rules in let n : is_err (numbers_of c.judge-judged.result) ≡ true = search rules in unfit-numbers d judged t n
      | in_default-via-in-Err-1 w ↦ let t : is_err (reply_of c.judge-judged.result) ≡ true = search rules in unfit-tables d judged t
    ] in
    let all = sheet-answered d s e (c.fill_numbers.ensures d judged)
    (c.fill.ensures.after (λ y k. k) ∙ ap (λ (n : ℕ). replicate n zero) r.energies ∙ energies-unfit d u a.jobs.now)
    (c.fill-in_default.ensures.after (λ y k. k) ∙ ap (λ (n : ℕ). replicate n 0) r.counts ∙ counts-unfit d u a.jobs.now)
    (stretches-kept d (stretch-unfit d u) a.jobs.now a.stretches.now r.stretches) in record {
      value = all.0;
      numbers_after = all.1.0;
      energies_after = all.1.1.0;
      counts_after = all.1.1.1.0;
      stretches_after = all.1.1.1.1;
    }
