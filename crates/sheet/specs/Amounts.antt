-- The amounts of strands, by their rows: potentials, or concentrations, whose logarithms stand for potentials.
use Rattle.std.specs.Prelude.{Bool, false, cond, not, ◌&&◌, Float, Option, None, Some}
use Rattle.doubles.specs.Decimal.{zero}
use Rattle.logarithm.specs.Figure.{ln_of}
use Rattle.logarithm.specs.Near.{has_logarithm}
use Rattle.statements.specs.Layout.{row_number}
use Rattle.statements.specs.declared.statement.Row.{Row}

-- the logarithm of a concentration. One without a logarithm gives 0.0, which no call reads: it is refused where its strand is somewhere a friend.
abbrev pub logarithm_in : Float → Float
logarithm_in concentration = cond (has_logarithm concentration) (ln_of concentration) zero

-- the potential that a row gives
abbrev pub potential_of : Row → Float
potential_of row = cond row.concentration (logarithm_in (row_number (Some row) 0)) (row_number (Some row) 0)

-- the same of a row that may be there; 0.0 where it is not
abbrev pub potential_in : Option Row → Float
potential_in None = zero
potential_in (Some row) = potential_of row

-- a row gives a concentration that has no logarithm: none from 2^-60 to 2^10 mol/l
abbrev pub is_thin : Row → Bool
is_thin row = row.concentration && not (has_logarithm (row_number (Some row) 0))

-- the same of a row that may be there
abbrev pub thin_in : Option Row → Bool
thin_in None = false
thin_in (Some row) = is_thin row
