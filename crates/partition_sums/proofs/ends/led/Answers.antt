-- The term of a left occupant meets its contract. Assumes nothing.
use Rattle.partition_sums.proofs.BothEnds.{placed-fit}
use Rattle.partition_sums.proofs.ends.led.Goals as goal

pub term_times-requires-clause-normal : goal.term_times-requires-clause-normal
term_times-requires-clause-normal c =
    rw (c.term_times-place.ensures, c.place_factor.ensures, c.from.ensures) ((placed-fit c.requires.leads).form)
