-- The two builds beside each other. proofs/Builds.antt shows all of this.
use Rattle.std.specs.Prelude.{◌≡◌, true, false}
use Rattle.reply.specs.Number.{number_of, answered}
use Rattle.reply.specs.First.{first_of, answer}
use Rattle.reply.specs.declared.Refusal.TheVariants.{TwoStars}
use Rattle.sdc1d_params.specs.Params.{Params, Outcome, param_checks, built_from, left_as_lent, any_retired, from_params}
use Rattle.sdc1d_params.specs.declared.Build.TheVariants.{Ordinary, Archive}

-- the call as document 01 has it, with no check of names that retire
unfoldable pub from_params_before : Params → Outcome → Outcome
from_params_before p lent = answer (first_of (param_checks p lent)) (left_as_lent lent) (built_from p)

-- of every parameter set and all that may be lent
pub record Builds (p : Params) (lent : Outcome) : Type 0 where
  -- the archive's build gives what document 01's call gave
  pub archive : from_params Archive p lent ≡ from_params_before p lent
  -- where the ordinary build answers, it gives what the archive's gives
  pub answers : (from_params Ordinary p lent).number ≡ answered → from_params Ordinary p lent ≡ from_params Archive p lent
  -- where no name retires, or the archive's build refuses, the two are the same
  pub same : any_retired p ≡ false → from_params Ordinary p lent ≡ from_params Archive p lent
  pub refuses : ((from_params Archive p lent).number ≡ answered → ⊥) → from_params Ordinary p lent ≡ from_params Archive p lent
  -- and else the ordinary build refuses with 21 and leaves what was lent
  pub retired : (from_params Archive p lent).number ≡ answered → any_retired p ≡ true → from_params Ordinary p lent ≡ left_as_lent lent (number_of TwoStars)
