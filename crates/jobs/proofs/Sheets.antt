-- What a sheet's own test tells, and what its judgement of the design does. Assumes nothing.
use mathlib.Core.Path.{◌≡◌, refl, sym, ap, ◌∙◌}
use mathlib.Core.Bool.{true, false, not, ◌||◌, false≢true, true≢false}
use mathlib.Core.Logic.{inl, inr}
use mathlib.Core.List.{List, map}
use Prim.Native.Nat.{ℕ, ◌*◌, ◌≤◌}
use native.Mathlib.Omega.{arith}
use lib.Dec.{ltb, eqb}
use lib.ListN.{length}
use lib.Ieee.{Float}
use borrow.Author.Tests.{ltb-false, eqb-true, not-false}
use Rattle.lists.proofs.Tests.{neither}
use Rattle.reply.specs.Number.{Reply}
use Rattle.reply.specs.First.{bare, first_of, refuses}
use Rattle.reply.specs.declared.Refusal.{Refusal}
use Rattle.design.specs.Design.{Design, positions}
use Rattle.design.specs.Checks.{table_checks, number_checks}
use Rattle.jobs.specs.Job.{job_number, job_energy, job_count}
use Rattle.jobs.specs.Sheet.{Sheet, wrong_sheet, stretches_of, sheet_reply, sheet_numbers, sheet_energies, sheet_counts, sheet_stretches}
use Rattle.jobs.specs.inner.Judged.{reply_of, numbers_of, JudgedRight}
use Rattle.jobs.specs.declared.judge.Judged.{Judged}
use Rattle.std.specs.Prelude.{Option, Result, Ok, Err}
use Rattle.std.specs.Result.{is_err}
use Rattle.jobs.proofs.Figures.{Unfit}

-- a sheet that is not refused
pub record Right (d : Design) (s : Sheet) : Type 0 where
  pub few : length s.jobs ≤ 64
  pub numbers : length s.numbers ≡ length s.jobs
  pub energies : length s.energies ≡ length s.jobs
  pub counts : length s.counts ≡ length s.jobs
  pub stretches : length s.stretches ≡ length s.jobs * positions d

module _ (d : Design) (s : Sheet) where
  pub right : wrong_sheet d s ≡ false → Right d s
  right e =
      let jobs = length s.jobs in
      let one = neither (ltb 64 jobs) (not (eqb (length s.numbers) jobs) || (not (eqb (length s.energies) jobs) || (not (eqb (length s.counts) jobs) || not (eqb (length s.stretches) (jobs * positions d))))) e in
      let two = neither (not (eqb (length s.numbers) jobs)) (not (eqb (length s.energies) jobs) || (not (eqb (length s.counts) jobs) || not (eqb (length s.stretches) (jobs * positions d)))) one.1 in
      let three = neither (not (eqb (length s.energies) jobs)) (not (eqb (length s.counts) jobs) || not (eqb (length s.stretches) (jobs * positions d))) two.1 in
      let four = neither (not (eqb (length s.counts) jobs)) (not (eqb (length s.stretches) (jobs * positions d))) three.1 in
      record {
        few = ltb-false _ _ one.0;
        numbers = eqb-true _ _ (not-false _ two.0);
        energies = eqb-true _ _ (not-false _ three.0);
        counts = eqb-true _ _ (not-false _ four.0);
        stretches = eqb-true _ _ (not-false _ four.1);
      }

  pub sheet-answered : wrong_sheet d s ≡ false → {numbers : List ℕ} {energies : List Float} {counts stretches : List ℕ} → numbers ≡ map (job_number d) s.jobs → energies ≡ map (job_energy d) s.jobs → counts ≡ map (job_count d) s.jobs → stretches ≡ stretches_of d s.jobs s.stretches
      → (Ok tt ≡ bare (sheet_reply d s)) × ((numbers ≡ sheet_numbers d s) × ((energies ≡ sheet_energies d s) × ((counts ≡ sheet_counts d s) × (stretches ≡ sheet_stretches d s))))
  sheet-answered e n x c t = rw e (refl, (n, (x, (c, t))))

-- ---- the design, by its judgement

admitted_of : (r : Reply) → bare r ≡ Ok tt → r ≡ Ok tt
admitted_of (Ok u) e = refl
admitted_of (Err refused) e = absurd (let z : ◌≡◌ {A = ℕ} 0 1 = cc in omega arith)

-- a reply that refuses without its place has one
refusal-of : (r : Reply) {t : Result Unit Refusal} → t ≡ bare r → is_err t ≡ true → (why : Refusal) × (place : Option ℕ) × (r ≡ refuses why place)
refusal-of (Ok u) e f = absurd (false≢true (sym (ap is_err e) ∙ f))
refusal-of (Err refused) e f = (refused.refusal, refused.place, refl)

-- and one that does not is admitted
pub passed : (t : Result Unit Refusal) → is_err t ≡ false → t ≡ Ok tt
passed (Ok u) f = refl
passed (Err refusal) f = absurd (true≢false f)

module _ (d : Design) {j : Result Judged Refusal} (w : JudgedRight d j) where
  pub unfit-tables : is_err (reply_of j) ≡ true → Unfit d
  unfit-tables n = let r = refusal-of (first_of (table_checks false d.scaffold d.marks d.glues d.dg d.ds d.amounts)) w.tables n in (r.0, r.1, inl r.2)

  pub unfit-numbers : is_err (reply_of j) ≡ false → is_err (numbers_of j) ≡ true → Unfit d
  unfit-numbers z n =
      let pass = passed (reply_of j) z in
      let r = refusal-of (first_of (number_checks d)) (w.numbers pass) n in
      (r.0, r.1, inr (admitted_of (first_of (table_checks false d.scaffold d.marks d.glues d.dg d.ds d.amounts)) (sym w.tables ∙ pass), r.2))
