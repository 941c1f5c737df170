-- What is known of a design that has passed its checks, and of one whose tables have. Beside the checks themselves it holds their bounds, which the code
-- relies on; they follow from the checks.
use Rattle.std.specs.Prelude.{◌<◌, ◌≤◌, Result, Ok, Err}
use Rattle.reply.specs.Number.{Reply}
use Rattle.reply.specs.declared.Refused.{Refused}
use Rattle.design.specs.Design.{Design, positions, strands}
use Rattle.design.specs.Checks.{TablesPass, Admitted}

-- its tables pass: at most 128 positions, and 1 to 64 strands
pub record TablesPassed (d : Design) : Type 0 where
  pub tables : TablesPass d
  pub short : positions d ≤ 128
  pub some : 0 < strands d
  pub few : strands d ≤ 64

-- it is admitted, with the same bounds
pub record ChecksPassed (d : Design) : Type 0 where
  pub admitted : Admitted d
  pub short : positions d ≤ 128
  pub some : 0 < strands d
  pub few : strands d ≤ 64

-- the reply of a call that gives something where it admits
abbrev pub reply_of : {A : Type 0} → Result A Refused → Reply
reply_of (Ok given) = Ok tt
reply_of (Err refused) = Err refused

-- each follows from the checks alone
pub record PassedFollow : Type 0 where
  pub tables : (d : Design) → TablesPass d → TablesPassed d
  pub checks : (d : Design) → Admitted d → ChecksPassed d
