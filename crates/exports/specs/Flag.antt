-- A yes or no as a number, for callers outside.
use Rattle.std.specs.Prelude.{Bool, true, false, ℕ}

-- 1 for yes, 0 for no
abbrev pub flag : Bool → ℕ
flag true = 1
flag false = 0
