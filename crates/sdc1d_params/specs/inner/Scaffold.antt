-- Scaffold names as the build finds them: by the numbers of the reduced names, which have lost the stars.
use Rattle.std.specs.Prelude.{Bool, false, ◌||◌, List, ℕ, eqb, ltb, get_or}
use Rattle.std.proofs.Math.Option.{none, some}
use Rattle.sdc_common.specs.Names.{stars_of}
use Rattle.sdc_common.specs.Lent.{Glue, name_at, glue_of}

-- unknown as spelled: the reduced name has no number, or there are two stars or more
unfoldable pub unknown_by : ℕ → Glue → Bool
unknown_by number none = false
unknown_by number (some name) = eqb number 0 || ltb 1 (stars_of name)

-- scaffold name i is unknown as spelled
abbrev pub unknown_at : List ℕ → List ℕ → List ℕ → ℕ → Bool
unknown_at text rows numbers i = unknown_by (get_or numbers i 0) (glue_of text (name_at rows i))
