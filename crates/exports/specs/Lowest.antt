-- Demand 3, of what the searches' C functions leave behind.
use Rattle.std.specs.Prelude.{◌≡◌, List, ℕ, Float}
use Rattle.reply.specs.Number.{answered}
use Rattle.model.specs.LowestConfiguration.{LowestConfiguration}
use Rattle.model.specs.Ring.{LowestRing}
use Rattle.design.specs.Design.{Design, model_of}

-- where it answers 0, the configuration written and the energy told are lowest
abbrev pub LowestTold : Design → ℕ → List ℕ → Float → Type 0
LowestTold d r configuration energy = r ≡ answered → LowestConfiguration (model_of d) configuration energy

-- and of rings
abbrev pub LowestRingTold : Design → ℕ → List ℕ → Float → Type 0
LowestRingTold d r configuration energy = r ≡ answered → LowestRing (model_of d) configuration energy
