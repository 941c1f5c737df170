-- What the checks leave of lent names.
use Rattle.std.specs.Prelude.{false, List, ◌≡◌, ℕ, ◌/◌, ◌<◌, length}
use Rattle.sdc_common.specs.Lent.{name_at, unfit_glue}
use Rattle.sdc_common.specs.declared.names.LentName.{LentName}

-- a name that is as it should be
abbrev pub Fit : List ℕ → LentName → Type 0
Fit text name = unfit_glue text name ≡ false

-- each name of the rows is
abbrev pub FitNames : List ℕ → List ℕ → Type 0
FitNames text rows = (k : ℕ) → k < length rows / 3 → Fit text (name_at rows k)
