-- A sheet of jobs on a design: its one refusal, and what stands in what is lent afterwards.
use Rattle.std.specs.Prelude.{Bool, not, ◌||◌, List, [], ◌∷◌, ◌++◌, map, ℕ, ◌*◌, ltb, eqb, length, take, drop, Float}
use Rattle.reply.specs.First.{Check, first_of, ◌if◌}
use Rattle.reply.specs.Figures.{entries_of}
use Rattle.reply.specs.declared.Refusal.TheVariants.{WrongSize}
use Rattle.design.specs.Design.{Design, positions}
use Rattle.jobs.specs.Word.{job_of}
use Rattle.reply.specs.Number.{Reply}
use Rattle.jobs.specs.Job.{stretch_for, job_number, job_energy, job_count}

-- the job words, and what is lent for the replies and the stretches
pub record Sheet : Type 0 where
  pub jobs : List ℕ
  pub numbers : List ℕ
  pub energies : List Float
  pub counts : List ℕ
  pub stretches : List ℕ

-- a sheet out of its parts
abbrev pub sheet : List ℕ → List ℕ → List Float → List ℕ → List ℕ → Sheet
sheet jobs numbers energies counts stretches = record { jobs = jobs; numbers = numbers; energies = energies; counts = counts; stretches = stretches }

-- the most jobs
abbrev pub most_jobs : ℕ
most_jobs = 64

-- more than 64 jobs, or replies that are not one for each job, or stretches that are not one entry for each job and position
abbrev pub wrong_sheet : Design → Sheet → Bool
wrong_sheet d s =
    ltb most_jobs (length s.jobs)
    || (not (eqb (length s.numbers) (length s.jobs))
    || (not (eqb (length s.energies) (length s.jobs))
    || (not (eqb (length s.counts) (length s.jobs)) || not (eqb (length s.stretches) (length s.jobs * positions d)))))

-- a sheet's only refusal, whatever the design
abbrev pub sheet_checks : Design → Sheet → List Check
sheet_checks d s = WrongSize if wrong_sheet d s ∷ []

-- the reply of `job_sheet`
abbrev pub sheet_reply : Design → Sheet → Reply
sheet_reply d s = first_of (sheet_checks d s)

-- the numbers afterwards
abbrev pub sheet_numbers : Design → Sheet → List ℕ
sheet_numbers d s = entries_of (sheet_reply d s) s.numbers (map (job_number d) s.jobs)

-- the energies
abbrev pub sheet_energies : Design → Sheet → List Float
sheet_energies d s = entries_of (sheet_reply d s) s.energies (map (job_energy d) s.jobs)

-- the counts
abbrev pub sheet_counts : Design → Sheet → List ℕ
sheet_counts d s = entries_of (sheet_reply d s) s.counts (map (job_count d) s.jobs)

-- each job's stretch in turn, one entry for each position
unfoldable pub stretches_of : Design → List ℕ → List ℕ → List ℕ
unfolding job_of
stretches_of d [] stretches = []
stretches_of d (word ∷ jobs) stretches = stretch_for d (job_of word) (take (positions d) stretches) ++ stretches_of d jobs (drop (positions d) stretches)

-- the stretches
abbrev pub sheet_stretches : Design → Sheet → List ℕ
sheet_stretches d s = entries_of (sheet_reply d s) s.stretches (stretches_of d s.jobs s.stretches)
