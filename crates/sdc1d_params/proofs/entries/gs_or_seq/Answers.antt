-- `sdc1d_params::gs_or_seq` meets its contract. Assumes nothing.
use borrow.Author.Tests.{eq-eqb, ne_eqb}
use Rattle.sdc1d_params.specs.Entries.{energy_of}
use Rattle.sdc1d_params.proofs.entries.gs_or_seq.Goals as goal

pub returns-then-entry-eq-GIVEN : goal.returns-then-entry-eq-GIVEN
unfolding energy_of
returns-then-entry-eq-GIVEN c = simp (eq-eqb c.args.entry.form 0 c.if-entry-eq-GIVEN.true)

pub returns : goal.returns
unfolding energy_of
returns c = simp (ne_eqb c.args.entry.form 0 c.if-entry-eq-GIVEN.false)
