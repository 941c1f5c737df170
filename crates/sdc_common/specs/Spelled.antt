-- Scaffold names, which are looked up among the known names as spelled.
use Rattle.std.specs.Prelude.{Bool, false, not, List, [], ◌∷◌, ◌++◌, ℕ, ◌+◌}
use Rattle.std.proofs.Math.Option.{none, some}
use Rattle.lists.specs.Find.{any, first_index}
use Rattle.sdc_common.specs.Names.{Name, same_name}
use Rattle.sdc_common.specs.Lent.{Glue}

-- document 01: "known names are the base and base* of every strand glue", in the order of their numbers, from 1
unfoldable pub known_names : List Name → List Name
known_names [] = []
known_names (base ∷ rest) = base ∷ (base ++ (42 ∷ [])) ∷ known_names rest

-- "a scaffold name is looked up as spelled, without stripping": it is unknown where no known name has its bytes
unfoldable pub is_unknown : List Name → Glue → Bool
is_unknown bases none = false
is_unknown bases (some name) = not (any (same_name name) (known_names bases))

-- the number of a scaffold name that is known; "absent is glue 0"
unfoldable pub spelled_number : List Name → Glue → ℕ
spelled_number bases none = 0
spelled_number bases (some name) = 1 + first_index (same_name name) (known_names bases)
