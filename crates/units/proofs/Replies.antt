-- The helper's checks are sorted by number, so that of several that hold the lowest is given. Assumes nothing.
use lib.Ieee.{Float}
use Rattle.reply.specs.First.{first_of, LowestGiven}
use Rattle.reply.proofs.Lowest.{lowest-given}
use Rattle.units.specs.Ambient.{ambient_checks}

pub ambient-reply : (kelvin : Float) → LowestGiven (ambient_checks kelvin) (first_of (ambient_checks kelvin))
ambient-reply kelvin = lowest-given (ambient_checks kelvin) tt
