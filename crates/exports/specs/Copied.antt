-- Strands whose glues are copied, and the penalty, as callers outside give them.
use Rattle.std.specs.Prelude.{cond, ℕ, eqb, Float, Option, Some, None}
use Rattle.sdc1d_params.specs.declared.Copies.{Copies}
use Rattle.utils.specs.declared.DgDs.{DgDs}

-- 0 for none; user strands are numbered from 1
abbrev pub copied_of : ℕ → Option ℕ
copied_of strand = cond (eqb strand 0) None (Some strand)

-- the strands of the quencher and of the reporter
abbrev pub copies_of : ℕ → ℕ → Copies
copies_of quencher reporter = record { quencher = copied_of quencher; reporter = copied_of reporter }

-- the penalty of two doubles
abbrev pub penalty_of : Float → Float → DgDs
penalty_of dg ds = record { dg = record { 0 = dg }; ds = record { 0 = ds } }
