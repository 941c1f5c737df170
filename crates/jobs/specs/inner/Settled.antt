-- The figures of a job over a model, and its stretch by the lowest configuration.
use Rattle.std.specs.Prelude.{cond, List, [], ◌∷◌, ◌++◌, ℕ, leb, ltb, length, take, drop, Float, Option, None, Some}
use Rattle.doubles.specs.Decimal.{zero}
use Rattle.model.specs.Model.{Model}
use Rattle.model.specs.States.{count, state_at}
use Rattle.model.specs.Energy.{state_energy}
use Rattle.jobs.specs.Word.{job_of}
use Rattle.jobs.specs.declared.job.Job.{Job}
use Rattle.jobs.specs.declared.job.Job.TheVariants.{EnergyAt, Search, Count}

-- the energy; `least` is that of the search
abbrev pub energy_in : Model → Float → Option Job → Float
energy_in m least (Some (EnergyAt rank)) = cond (ltb 1048576 (count m)) zero (cond (leb (count m) rank) zero (state_energy m (state_at m rank)))
energy_in m least (Some Search) = least
energy_in m least (Some Count) = zero
energy_in m least None = zero

-- of a word
unfoldable pub energy_of_word : Model → Float → ℕ → Float
unfolding job_of
energy_of_word m least word = energy_in m least (job_of word)

-- the count, by a number of states that is held just past the limit
abbrev pub count_held : ℕ → Option Job → ℕ
count_held states (Some (EnergyAt rank)) = 0
count_held states (Some Search) = 0
count_held states (Some Count) = cond (ltb 1048576 states) 0 states
count_held states None = 0

-- of a word
unfoldable pub count_of_word : ℕ → ℕ → ℕ
unfolding job_of
count_of_word states word = count_held states (job_of word)

-- a stretch, by the configuration that a search shows
abbrev pub stretch_in : List ℕ → Option Job → List ℕ → List ℕ
stretch_in configuration (Some (EnergyAt rank)) stretch = stretch
stretch_in configuration (Some Search) stretch = configuration
stretch_in configuration (Some Count) stretch = stretch
stretch_in configuration None stretch = stretch

-- all stretches
unfoldable pub stretches_in : List ℕ → List ℕ → List ℕ → List ℕ
unfolding job_of
stretches_in configuration [] stretches = []
stretches_in configuration (word ∷ jobs) stretches =
    stretch_in configuration (job_of word) (take (length configuration) stretches) ++ stretches_in configuration jobs (drop (length configuration) stretches)
