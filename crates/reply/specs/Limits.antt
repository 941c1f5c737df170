-- Document 01's limits and ranges, ends included.
use Rattle.std.specs.Prelude.{ℕ}

-- scaffold 0 to 128 positions
abbrev pub most_positions : ℕ
most_positions = 128

-- strands 1 to 64, strand 0 included
abbrev pub most_strands : ℕ
most_strands = 64

-- the highest glue
abbrev pub last_glue : ℕ
last_glue = 63

-- a glue table is 64 by 64
abbrev pub glue_count : ℕ
glue_count = 64

-- its cells
abbrev pub cell_count : ℕ
cell_count = 4096

-- the most states that are counted, and of which a rank is asked
abbrev pub most_states : ℕ
most_states = 1048576

-- dG cells ±1,024 kcal/mol
abbrev pub most_dg : ℕ
most_dg = 1024

-- dS cells ±8 kcal/mol/K
abbrev pub most_ds : ℕ
most_ds = 8

-- excess temperatures ±1,024 K
abbrev pub most_excess : ℕ
most_excess = 1024

-- potentials ±1,024
abbrev pub most_potential : ℕ
most_potential = 1024

-- RT from 125 thousandths of a kcal/mol
abbrev pub least_rt_thousandths : ℕ
least_rt_thousandths = 125

-- to 8 kcal/mol
abbrev pub most_rt : ℕ
most_rt = 8
