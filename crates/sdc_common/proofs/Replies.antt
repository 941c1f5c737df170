-- Each call's checks are sorted by number, so that of several that hold the lowest is given. Assumes nothing.
use mathlib.Core.List.{List}
use Prim.Native.Nat.{ℕ}
use Rattle.reply.specs.First.{first_of, LowestGiven}
use Rattle.reply.proofs.Lowest.{lowest-given}
use Rattle.sdc_common.specs.Lent.{Names}
use Rattle.sdc_common.specs.Calls.{name_checks, numbers_checks, glue_checks}

pub name-reply : (text : List ℕ) (start size : ℕ) → LowestGiven (name_checks text start size) (first_of (name_checks text start size))
name-reply text start size = lowest-given (name_checks text start size) tt

module _ (users : ℕ) (text : List ℕ) (strands : Names) (lent : ℕ) where
  pub numbers-reply : (names : Names) → LowestGiven (numbers_checks users text strands names lent) (first_of (numbers_checks users text strands names lent))
  numbers-reply names = lowest-given (numbers_checks users text strands names lent) tt

  pub glues-reply : LowestGiven (glue_checks users text strands lent) (first_of (glue_checks users text strands lent))
  glues-reply = lowest-given (glue_checks users text strands lent) tt
