-- What a file's statements say to the calls: the parameter set that `from_params` is handed, the ambient, and the marks and potentials of the
-- design, out of the rows that crate `statements` gives. Strands, positions and entries stand in the order of the file's lines.
use Rattle.std.specs.Prelude.{Bool, List, ℕ, ◌*◌, Float, Option, None, Some}
use Rattle.std.specs.Option.{is_some}
use Rattle.lists.specs.Build.{tabulate}
use Rattle.reply.specs.Number.{number_of, answered}
use Rattle.reply.specs.declared.Refusal.TheVariants.{OutOfRange}
use Rattle.units.specs.Ambient.{Figures, refused, ambient_at}
use Rattle.utils.specs.declared.DgDs.{DgDs}
use Rattle.sdc1d_params.specs.Params.{Params, params_of}
use Rattle.sdc1d_params.specs.declared.Copies.{Copies}
use Rattle.statements.specs.declared.statement.Row.{Row}
use Rattle.statements.specs.declared.words.Word.{Word}
use Rattle.sheet.specs.Rows.{first_of, rows_of}
use Rattle.sheet.specs.Faults.{counts_of}
use Rattle.sheet.specs.Parts.{glue_at, first_at, name_number_at, entry_number_at, energy_at, potential_at, blocked_at}
use Rattle.sheet.specs.Once.{number_once, ambient_of, copied_of}
use Rattle.sheet.specs.declared.once.Ambient.{Ambient}
use Rattle.sheet.specs.declared.once.Ambient.TheVariants.{At, Given}
use Rattle.sheet.specs.declared.rows.Group.TheVariants.{Strand, Quencher, Reporter, Position, Entry, Penalty, Ring}

-- ---- the parameter set

-- the glue names of the first n strands, west, bottom and east of each: a row of mark, start and size for each name
unfoldable pub strand_names : ℕ → List Row → List ℕ
strand_names n rows = tabulate (9 * n) (name_number_at (glue_at rows (rows_of Strand rows)))

-- the glue names of the first n positions, a row for each
unfoldable pub position_names : ℕ → List Row → List ℕ
position_names n rows = tabulate (3 * n) (name_number_at (first_at rows (rows_of Position rows)))

-- the first n entries, a row of eight numbers for each
unfoldable pub entry_numbers : ℕ → List Row → List ℕ
entry_numbers n rows = tabulate (8 * n) (entry_number_at rows (rows_of Entry rows))

-- dG and dS of each of the first n entries
unfoldable pub entry_energies : ℕ → List Row → List Float
entry_energies n rows = tabulate (2 * n) (energy_at rows (rows_of Entry rows))

-- the junction penalty: dG and dS of its line
abbrev pub penalty_said : List Row → DgDs
penalty_said rows = record { dg = record { 0 = number_once Penalty rows 0 }; ds = record { 0 = number_once Penalty rows 1 } }

-- whose glues the quencher and the reporter copy
abbrev pub copies_said : List ℕ → List Row → Copies
copies_said text rows =
    record { quencher = copied_of Quencher text rows (rows_of Strand rows); reporter = copied_of Reporter text rows (rows_of Strand rows) }

-- the parameter set that the file says: all of its strands, positions and entries
unfoldable pub params_said : List ℕ → List Row → Params
params_said text rows =
    params_of text (counts_of rows).strands (strand_names (counts_of rows).strands rows) (position_names (counts_of rows).positions rows)
    (entry_numbers (counts_of rows).entries rows) (entry_energies (counts_of rows).entries rows) (penalty_said rows) (copies_said text rows)

-- ---- the ambient

-- an ambient as figures: at its temperature, or as it is given
abbrev pub ambient_by : Option Ambient → Figures
ambient_by None = refused (number_of OutOfRange)
ambient_by (Some (At kelvin)) = ambient_at kelvin.0
ambient_by (Some (Given a)) =
    record { number = answered; rt = a.rt.0; strand_excess = a.strand_excess.0; scaffold_excess = a.scaffold_excess.0 }

-- the ambient that the file says, or the refusal of its temperature
unfoldable pub ambient_said : List Row → Figures
ambient_said rows = ambient_by (ambient_of rows)

-- ---- the rest of the design

-- the potentials of the first n strands, strand 0 first, which has 0.0; of a concentration the logarithm
unfoldable pub potentials_said : ℕ → List Row → List Float
potentials_said n rows = tabulate n (potential_at rows (rows_of Strand rows))

-- the marks of the first n positions
unfoldable pub marks_said : ℕ → List Row → List ℕ
marks_said n rows = tabulate n (blocked_at rows (rows_of Position rows))

-- the scaffold is a ring: the file has the statement
abbrev pub ring_said : List Row → Bool
ring_said rows = is_some (first_of Ring rows)

-- ---- what is shown

-- the glues of the first n positions, as words of the text
unfoldable pub glues_shown : ℕ → List Row → List Word
glues_shown n rows = tabulate n (first_at rows (rows_of Position rows))

-- the names of the first n strands
unfoldable pub strands_shown : ℕ → List Row → List Word
strands_shown n rows = tabulate n (first_at rows (rows_of Strand rows))
