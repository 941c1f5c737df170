-- The parameter set that the inner functions pass on, and what is lent beside it.
use Rattle.sdc1d_params.specs.Params.{Params, Outcome, params_lent, lent_of}
use Rattle.sdc1d_params.specs.declared.set.ParameterSet.{ParameterSet}
use Rattle.sdc1d_params.specs.declared.sizes.Lent.{Lent}

-- the names and entries that its rows hold
abbrev pub set_of : ParameterSet → Params
set_of s = params_lent s.lent

-- what is lent to be written, as it comes
abbrev pub as_lent : Lent → Outcome
as_lent l = lent_of l.strand_glues.now l.scaffold_glues.now l.dg.now l.ds.now
