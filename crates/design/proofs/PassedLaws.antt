-- The bounds of a design that has passed its checks follow from these. Assumes nothing.
use Rattle.design.specs.Passed.{PassedFollow}
use Rattle.design.proofs.Sizes.{sized}

pub passed-follow : PassedFollow
passed-follow = record {
  tables = λ d e. let s = sized d e.sizes in record { tables = e; short = s.short; some = s.null; few = s.few };
  checks = λ d e. let s = sized d e.sizes in record { admitted = e; short = s.short; some = s.null; few = s.few };
}
