-- A check that looked for the place of its fault.
use Rattle.std.specs.Prelude.{ℕ, Option, Some, None, Ok}
use Rattle.reply.specs.Number.{Reply}
use Rattle.reply.specs.First.{refuses}
use Rattle.reply.specs.declared.Refusal.{Refusal}

-- it refuses where there is one
abbrev pub refused_where : Refusal → Option ℕ → Reply
refused_where refusal None = Ok tt
refused_where refusal (Some k) = refuses refusal (Some k)
