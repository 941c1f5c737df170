-- What the call answers.
use Rattle.std.specs.Prelude.{true, false, ◌≡◌, Float, Result, Ok, Err}
use Rattle.fractions.specs.declared.Weight.{Weight}
use Rattle.reply.specs.declared.Refusal.{Refusal}
use Rattle.reply.specs.declared.Refusal.TheVariants.{OutOfRange}
use Rattle.exponential.specs.Near.{ExpOf, has_exponential}

-- 9 without a place for an argument that is not finite or above 80,000 in size; else a weight near its exponential
abbrev pub ExpAnswered : Float → Result Weight Refusal → Type 0
ExpAnswered x (Ok w) = (has_exponential x ≡ true) × ExpOf x w
ExpAnswered x (Err refusal) = (has_exponential x ≡ false) × (refusal ≡ OutOfRange)
