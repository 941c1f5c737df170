-- A sheet is answered alike on designs whose amounts read alike. Assumes nothing.
use mathlib.Core.Path.{◌≡◌, refl, sym, ap, ap₂, subst, ◌∙◌}
use mathlib.Core.Bool.{Bool, not}
use mathlib.Core.List.{List, [], ◌∷◌, ◌++◌}
use Prim.Native.Nat.{ℕ, ◌<◌}
use lib.Dec.{leb, ltb, eqb}
use lib.ListN.{length, get_or, take, drop}
use lib.Ieee.{Float}
use borrow.Author.Tests.{leb-false}
use Rattle.std.specs.Prelude.{map, Option, None, Some, Ok}
use Rattle.lists.proofs.Places.{mem-get_or}
use Rattle.doubles.specs.Decimal.{zero}
use Rattle.reply.specs.First.{Check, ◌if◌, first_of}
use Rattle.reply.specs.Figures.{Figures, figures_of, entries_of}
use Rattle.reply.specs.declared.Refusal.TheVariants.{TooManyStates, RankTooHigh}
use Rattle.reply.proofs.First.{none-holds}
use Rattle.reply.proofs.Figures.{same-figures}
use Rattle.model.specs.Model.{State}
use Rattle.model.specs.States.{states, count, state_at}
use Rattle.model.specs.Energy.{state_energy}
use Rattle.model.proofs.Listing.{listed}
use Rattle.design.specs.declared.Amounts.{Amounts}
use Rattle.design.specs.Design.{Design, positions, model_of}
use Rattle.design.specs.Checks.{design_checks, own_rank_checks, rank_checks}
use Rattle.design.specs.Unread.{with_amounts, ReadAlike, AnswersAlike}
use Rattle.design.proofs.Replies.{passed}
use Rattle.design.proofs.Unread.{same-design-reply, same-models, unread-amounts}
use Rattle.mfe.specs.Answered.{SearchUnread}
use Rattle.mfe.proofs.Answered.{unread-by-search}
use Rattle.jobs.specs.declared.job.Job.{Job}
use Rattle.jobs.specs.declared.job.Job.TheVariants.{EnergyAt, Search, Count}
use Rattle.jobs.specs.Word.{job_of}
use Rattle.jobs.specs.Job.{places, rank_energy, number_for, energy_for, count_for, stretch_for, job_number, job_energy, job_count}
use Rattle.jobs.specs.Sheet.{sheet_reply, stretches_of}
use Rattle.jobs.specs.Unread.{UnreadBySheets}

-- a function for each word, in two ways that agree
maps-same : {A : Type 0} (f g : ℕ → A) → ((word : ℕ) → f word ≡ g word) → (words : List ℕ) → map f words ≡ map g words
maps-same f g same [] = refl
maps-same f g same (word ∷ words) = ap₂ (λ x xs. x ∷ xs) (same word) (maps-same f g same words)

module _ (d : Design) (amounts : List Float) (given : Amounts) (r : ReadAlike d amounts given) where
  abbrev other : Design
  other = with_amounts d amounts given

  alike : AnswersAlike d other
  alike = unread-amounts.answers d amounts given r

  searched : (entries : List ℕ) → SearchUnread d amounts given entries
  searched entries = unread-by-search d amounts given entries r

  -- ---- the state energy at a rank

  abbrev size : Bool
  size = not (eqb (length (places d)) (positions d))

  checks-same : (rank : ℕ) → rank_checks d rank (places d) ≡ rank_checks other rank (places d)
  checks-same rank =
      sym (same-design-reply d amounts given r size (own_rank_checks d rank) [])
      ∙ ap (λ (n : ℕ). design_checks size other (TooManyStates if ltb 1048576 n ∷ RankTooHigh if leb n rank ∷ []) []) (same-models d amounts given r).counted

  -- the state at a rank that is answered
  ranked : (rank : ℕ) → first_of (rank_checks d rank (places d)) ≡ Ok tt → State (model_of d) (state_at (model_of d) rank)
  ranked rank e =
      let p = passed size d (own_rank_checks d rank) [] e in
      let l = listed (model_of d) in
      let known : rank < count (model_of d) = leb-false _ _ (none-holds (own_rank_checks d rank) p.own).1.0 in
      subst (λ (s : List ℕ). State (model_of d) s) (l.ranked rank known) (l.only (get_or (states (model_of d)) rank []) (mem-get_or [] (states (model_of d)) rank (rw l.size known)))

  energies-same : (rank : ℕ) → rank_energy d rank ≡ rank_energy other rank
  energies-same rank =
      same-figures (first_of (rank_checks d rank (places d))) zero _ _
      (λ e. (same-models d amounts given r).state_energies (state_at (model_of d) rank) (ranked rank e) ∙ ap (state_energy (model_of other)) ((same-models d amounts given r).ranked rank))
      ∙ ap (λ (cs : List Check). figures_of (first_of cs) zero (state_energy (model_of other) (state_at (model_of other) rank))) (checks-same rank)

  -- ---- a job

  number-same : (job : Option Job) → number_for d job ≡ number_for other job
  number-same (Some (EnergyAt rank)) = ap (λ (f : Figures Unit). f.number) (alike.ranks rank (places d))
  number-same (Some Search) = ap (λ (f : Figures Float). f.number) (searched (places d)).answer
  number-same (Some Count) = ap (λ (f : Figures ℕ). f.number) alike.counts
  number-same None = refl

  energy-same : (job : Option Job) → energy_for d job ≡ energy_for other job
  energy-same (Some (EnergyAt rank)) = ap (λ (f : Figures Float). f.figure) (energies-same rank)
  energy-same (Some Search) = ap (λ (f : Figures Float). f.figure) (searched (places d)).answer
  energy-same (Some Count) = refl
  energy-same None = refl

  count-same : (job : Option Job) → count_for d job ≡ count_for other job
  count-same (Some (EnergyAt rank)) = refl
  count-same (Some Search) = refl
  count-same (Some Count) = ap (λ (f : Figures ℕ). f.figure) alike.counts
  count-same None = refl

  stretch-same : (job : Option Job) (stretch : List ℕ) → stretch_for d job stretch ≡ stretch_for other job stretch
  stretch-same (Some (EnergyAt rank)) stretch = refl
  stretch-same (Some Search) stretch = (searched stretch).written
  stretch-same (Some Count) stretch = refl
  stretch-same None stretch = refl

  -- ---- a sheet

  numbers-same : (jobs : List ℕ) → map (job_number d) jobs ≡ map (job_number other) jobs
  unfolding job_number
  numbers-same = maps-same (job_number d) (job_number other) (λ word. number-same (job_of word))

  all-energies-same : (jobs : List ℕ) → map (job_energy d) jobs ≡ map (job_energy other) jobs
  unfolding job_energy
  all-energies-same = maps-same (job_energy d) (job_energy other) (λ word. energy-same (job_of word))

  counts-same : (jobs : List ℕ) → map (job_count d) jobs ≡ map (job_count other) jobs
  unfolding job_count
  counts-same = maps-same (job_count d) (job_count other) (λ word. count-same (job_of word))

  stretches-alike : (jobs stretches : List ℕ) → stretches_of d jobs stretches ≡ stretches_of other jobs stretches
  unfolding stretches_of
  stretches-alike [] stretches = refl
  stretches-alike (word ∷ jobs) stretches =
      ap₂ (λ (here later : List ℕ). here ++ later) (stretch-same (job_of word) (take (positions d) stretches)) (stretches-alike jobs (drop (positions d) stretches))

pub unread-by-sheets : UnreadBySheets
unread-by-sheets d amounts given r = record {
  replies = λ s. refl;
  numbers = λ s. ap (entries_of (sheet_reply d s) s.numbers) (numbers-same d amounts given r s.jobs);
  energies = λ s. ap (entries_of (sheet_reply d s) s.energies) (all-energies-same d amounts given r s.jobs);
  counts = λ s. ap (entries_of (sheet_reply d s) s.counts) (counts-same d amounts given r s.jobs);
  stretches = λ s. ap (entries_of (sheet_reply d s) s.stretches) (stretches-alike d amounts given r s.jobs s.stretches);
}
