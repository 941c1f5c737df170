-- Each crate's theorem, of the logarithms as potentials. Assumes nothing.
use Rattle.design.specs.declared.Amounts.TheVariants.{Potentials}
use Rattle.design.proofs.Unread.{unread-amounts}
use Rattle.mfe.proofs.Answered.{unread-by-search}
use Rattle.bond_tables.proofs.Unread.{unread-over}
use Rattle.ring.proofs.Unread.{unread-by-rings}
use Rattle.state_sums.proofs.Unread.{unread-by-sums}
use Rattle.probabilities.proofs.Unread.{unread-by-energies}
use Rattle.ceiling.proofs.Unread.{unread-under}
use Rattle.jobs.proofs.Unread.{unread-by-sheets}
use Rattle.exports.specs.ByLogarithms.{ByLogarithms}

pub by-logarithms : ByLogarithms
by-logarithms d potentials none own =
    let alike = (unread-amounts.reads d potentials).logarithms none own in
    record {
      direct = unread-amounts.answers d potentials Potentials alike;
      searches = λ entries. unread-by-search d potentials Potentials entries alike;
      over_tables = unread-over d potentials Potentials alike;
      rings = unread-by-rings d potentials Potentials alike;
      sums = unread-by-sums d potentials Potentials alike;
      energies = unread-by-energies d potentials Potentials alike;
      ceilings = unread-under d potentials Potentials alike;
      sheets = unread-by-sheets d potentials Potentials alike;
    }
