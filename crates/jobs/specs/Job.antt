-- What a job of a sheet answers: a number, an energy and a count, as the direct calls' own definitions give them, 0 for a figure that they don't give;
-- and what stands in its stretch afterwards.
use Rattle.std.specs.Prelude.{List, ℕ, replicate, Float, Option, None, Some}
use Rattle.doubles.specs.Decimal.{zero}
use Rattle.reply.specs.Number.{number_of}
use Rattle.reply.specs.First.{first_of}
use Rattle.reply.specs.Figures.{Figures, figures_of}
use Rattle.reply.specs.declared.Refusal.TheVariants.{NotAJob}
use Rattle.model.specs.States.{state_at}
use Rattle.model.specs.Energy.{state_energy}
use Rattle.design.specs.Design.{Design, positions, model_of}
use Rattle.design.specs.Checks.{rank_checks}
use Rattle.design.specs.Answers.{count_answer, rank_answer}
use Rattle.mfe.specs.Answers.{search_answer, search_entries}
use Rattle.jobs.specs.Word.{job_of}
use Rattle.jobs.specs.declared.job.Job.{Job}
use Rattle.jobs.specs.declared.job.Job.TheVariants.{EnergyAt, Search, Count}

-- an entry for each position, as the direct calls are lent
abbrev pub places : Design → List ℕ
places d = replicate (positions d) 0

-- the state energy of the state at a rank, where the rank is answered
abbrev pub rank_energy : Design → ℕ → Figures Float
rank_energy d rank = figures_of (first_of (rank_checks d rank (places d))) zero (state_energy (model_of d) (state_at (model_of d) rank))

-- the number; of a word that is no job document 02's 22, whatever else holds
abbrev pub number_for : Design → Option Job → ℕ
number_for d (Some (EnergyAt rank)) = (rank_answer d rank (places d)).number
number_for d (Some Search) = (search_answer d (places d)).number
number_for d (Some Count) = (count_answer d).number
number_for d None = number_of NotAJob

-- the energy
abbrev pub energy_for : Design → Option Job → Float
energy_for d (Some (EnergyAt rank)) = (rank_energy d rank).figure
energy_for d (Some Search) = (search_answer d (places d)).figure
energy_for d (Some Count) = zero
energy_for d None = zero

-- the count
abbrev pub count_for : Design → Option Job → ℕ
count_for d (Some (EnergyAt rank)) = 0
count_for d (Some Search) = 0
count_for d (Some Count) = (count_answer d).figure
count_for d None = 0

-- the stretch, that only a search fills
abbrev pub stretch_for : Design → Option Job → List ℕ → List ℕ
stretch_for d (Some (EnergyAt rank)) stretch = stretch
stretch_for d (Some Search) stretch = search_entries d stretch
stretch_for d (Some Count) stretch = stretch
stretch_for d None stretch = stretch

-- ---- of a word

-- its number
unfoldable pub job_number : Design → ℕ → ℕ
unfolding job_of
job_number d word = number_for d (job_of word)

-- its energy
unfoldable pub job_energy : Design → ℕ → Float
unfolding job_of
job_energy d word = energy_for d (job_of word)

-- its count
unfoldable pub job_count : Design → ℕ → ℕ
unfolding job_of
job_count d word = count_for d (job_of word)
