-- Tables as a loop fills them, and what an entry writes as the code has it. Assumes nothing.
use mathlib.Core.Path.{◌≡◌}
use mathlib.Core.List.{List}
use Prim.Native.Nat.{ℕ}
use lib.Ieee.{Float, binary64, add}
use Rattle.sdc1d_params.specs.Entries.{Cell, entry_dg, entry_ds}
use Rattle.sdc1d_params.specs.Tables.{write_of}
use Rattle.sdc1d_params.specs.declared.entries.GsOrSeq.{GsOrSeq}

-- a write from its two sums
pub same_write :
    (text : List ℕ) (pdg pds : Float) (c : Cell) {entry other : GsOrSeq} {dg ds : Float}
    → entry ≡ other
    → dg ≡ add binary64 (entry_dg text entry) pdg
    → ds ≡ add binary64 (entry_ds text entry) pds
    → record { at = c; dg = dg; ds = ds } ≡ write_of text pdg pds c other
unfolding write_of
same_write text pdg pds c same d s = rw (d, s, same)
