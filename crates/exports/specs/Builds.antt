-- `from_params` in the build that a number names, for callers outside.
use Rattle.std.specs.Prelude.{cond, ℕ, eqb, Option, Some, None}
use Rattle.reply.specs.Number.{number_of}
use Rattle.reply.specs.declared.Refusal.TheVariants.{WrongSize}
use Rattle.sdc1d_params.specs.declared.Build.{Build}
use Rattle.sdc1d_params.specs.Params.{Params, Outcome, left_as_lent, from_params}
use Rattle.sdc1d_params.specs.declared.Build.TheVariants.{Ordinary, Archive}

-- 0 is an ordinary build, 1 the archive's, and no other number names a build
abbrev pub build_numbered : ℕ → Option Build
build_numbered number = cond (eqb number 0) (Some Ordinary) (cond (eqb number 1) (Some Archive) None)

-- the call; a number that names no build is 1
abbrev pub built_in : Option Build → Params → Outcome → Outcome
built_in (Some build) p lent = from_params build p lent
built_in None p lent = left_as_lent lent (number_of WrongSize)
