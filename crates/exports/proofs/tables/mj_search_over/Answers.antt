-- `exports::tables::mj_search_over` meets its contract: where 0 is answered, what is written and told is lowest. Assumes nothing.
use Rattle.exports.proofs.Tabled.{lowest-told-over}
use Rattle.exports.proofs.tables.mj_search_over.Goals as goal

pub returns-clause-lowest_told_over : goal.returns-clause-lowest_told_over
returns-clause-lowest_told_over c =
    let a = c.args in
    let ensured = c.search_over.ensures in
    let told = c.tell_energy.ensures in
    lowest-told-over _ a.tables.now.strand_bonds.now a.tables.now.scaffold_bonds.now a.configuration.now ensured.lowest_over (rw ensured.result_value at told.number) told.figure
