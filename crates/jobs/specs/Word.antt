-- What a job word asks. Its kind and its payload are read as a deck's.
use Rattle.std.specs.Prelude.{cond, ℕ, eqb, Option, None, Some}
use Rattle.deck.specs.Word.{kind_of, payload_of}
use Rattle.jobs.specs.declared.job.Job.{Job}
use Rattle.jobs.specs.declared.job.Job.TheVariants.{EnergyAt, Search, Count}

-- kind 8 is the state energy at the rank in the payload; 9 the search and 10 the count, both with payload 0; any other word is none
unfoldable pub job_of : ℕ → Option Job
job_of word =
    cond (eqb (kind_of word) 8) (Some (EnergyAt (payload_of word)))
    (cond (eqb (payload_of word) 0) (cond (eqb (kind_of word) 9) (Some Search) (cond (eqb (kind_of word) 10) (Some Count) None)) None)
