-- The checks are sorted by number, so that of several that hold the lowest is given. Assumes nothing.
use Rattle.reply.specs.First.{first_of, LowestGiven}
use Rattle.reply.proofs.Lowest.{lowest-given}
use Rattle.sdc1d_params.specs.Params.{Params, Outcome, build_checks}
use Rattle.sdc1d_params.specs.declared.Build.{Build}

pub params-reply : (build : Build) (p : Params) (lent : Outcome) → LowestGiven (build_checks build p lent) (first_of (build_checks build p lent))
params-reply build p lent = lowest-given (build_checks build p lent) tt
