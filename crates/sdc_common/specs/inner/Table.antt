-- The table of bases that the calls keep while they run.
use Rattle.std.specs.Prelude.{List, ℕ, ◌≡◌, ◌<◌, length, true, false, Option, None, Some}
use Rattle.std.proofs.Math.Option.{none, some}
use Rattle.lists.specs.Find.{first_index}
use Rattle.sdc_common.specs.Names.{Name, same_name}
use Rattle.sdc_common.specs.Lent.{Glue}
use Rattle.sdc_common.specs.Numbers.{is_known}
use denote.Ref.{Bor}

-- a glue as the code has it
abbrev pub glue : Option (Bor Name) → Glue
glue None = none
glue (Some name) = some name.now

-- the place of the first base that has these bytes, where there is one
abbrev pub Found : List Name → Name → Option ℕ → Type 0
Found bases base None = is_known bases base ≡ false
Found bases base (Some place) = (is_known bases base ≡ true) × (place ≡ first_index (same_name base) bases) × (place < length bases)
