-- A design that is judged once for all jobs.
use Rattle.std.specs.Prelude.{◌≡◌, false, [], ◌∷◌, ℕ, min, leb, ltb, Option, None, Some, Result, Ok, Err}
use Rattle.reply.specs.First.{bare, first_of, ◌if◌}
use Rattle.reply.specs.declared.Refusal.{Refusal}
use Rattle.reply.specs.declared.Refusal.TheVariants.{TooManyStates, RankTooHigh, NotAJob}
use Rattle.model.specs.States.{count}
use Rattle.design.specs.Design.{Design, model_of}
use Rattle.design.specs.Checks.{table_checks, number_checks}
use Rattle.jobs.specs.declared.job.Job.{Job}
use Rattle.jobs.specs.declared.job.Job.TheVariants.{EnergyAt, Search, Count}
use Rattle.jobs.specs.declared.judge.Judged.{Judged}

infixr 40 ◌or_next◌
-- one reply, and the next where the first admits
abbrev pub ◌or_next◌ : Result Unit Refusal → Result Unit Refusal → Result Unit Refusal
(Ok u) or_next next = next
(Err refusal) or_next next = Err refusal

-- the reply of what gives something where it admits
abbrev pub reply_of : {A : Type 0} → Result A Refusal → Result Unit Refusal
reply_of (Ok given) = Ok tt
reply_of (Err refusal) = Err refusal

-- where the tables pass, how many states were counted
abbrev pub states_of : Result Judged Refusal → ℕ
states_of (Ok judged) = judged.counted.states
states_of (Err refusal) = 0

-- and the reply of the numbers
abbrev pub numbers_of : Result Judged Refusal → Result Unit Refusal
numbers_of (Ok judged) = reply_of judged.admitted
numbers_of (Err refusal) = Ok tt

-- what a job replies by what its design was judged for
abbrev pub judged_reply : Result Judged Refusal → Option Job → Result Unit Refusal
judged_reply j (Some (EnergyAt rank)) = reply_of j or_next (bare (first_of (TooManyStates if ltb 1048576 (states_of j) ∷ [])) or_next (bare (first_of (RankTooHigh if leb (states_of j) rank ∷ [])) or_next numbers_of j))
judged_reply j (Some Search) = reply_of j or_next numbers_of j
judged_reply j (Some Count) = reply_of j or_next (bare (first_of (TooManyStates if ltb 1048576 (states_of j) ∷ [])) or_next numbers_of j)
judged_reply j None = Err NotAJob

-- what is judged is the design's: its tables, and where they pass its number of states and its numbers
pub record JudgedRight (d : Design) (j : Result Judged Refusal) : Type 0 where
  pub tables : reply_of j ≡ bare (first_of (table_checks false d.scaffold d.marks d.glues d.dg d.ds d.amounts))
  pub states : reply_of j ≡ Ok tt → states_of j ≡ min (count (model_of d)) 1048577
  pub numbers : reply_of j ≡ Ok tt → numbers_of j ≡ bare (first_of (number_checks d))
