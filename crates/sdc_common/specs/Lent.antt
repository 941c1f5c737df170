-- Names as they are lent: parts of one text, each a row of three numbers.
use Rattle.std.specs.Prelude.{Bool, false, cond, not, ◌&&◌, ◌||◌, List, map, ℕ, ◌+◌, ◌*◌, ◌/◌, ◌%◌, eqb, ltb, length, get_or, take, drop}
use Rattle.std.proofs.Math.Option.{Option, none, some}
use Rattle.lists.specs.Find.{any}
use Rattle.lists.specs.Build.{tabulate}
use Rattle.sdc_common.specs.Names.{Name, is_retired}
use Rattle.sdc_common.specs.declared.names.LentName.{LentName}

-- ---- one name

-- the part of the text at a start, of a length
unfoldable pub part_of : List ℕ → ℕ → ℕ → Name
part_of text start size = take size (drop start text)

-- a start and a length that leave the text. The sum is one of naturals, and never wraps.
abbrev pub leaves : List ℕ → ℕ → ℕ → Bool
leaves text start size = ltb (length text) (start + size)

-- names: 64 bytes, the stars counted
abbrev pub unfit_name : List ℕ → ℕ → ℕ → Bool
unfit_name text start size = ltb 64 size || leaves text start size

-- the mark of a name that is absent
abbrev pub is_absent : ℕ → Bool
is_absent mark = eqb mark 0

-- the mark of a name that is there
abbrev pub is_present : ℕ → Bool
is_present mark = eqb mark 1

-- a glue: absent by its mark, or a name. The empty name is a name.
abbrev pub Glue : Type 0
Glue = Option Name

-- the glue that a lent name stands for
unfoldable pub glue_of : List ℕ → LentName → Glue
glue_of text name = cond (is_absent name.mark) none (some (part_of text name.part.start name.part.size))

-- a mark that is neither value, or a present name that is too long or leaves the text. An absent name's start and length are not looked at.
unfoldable pub unfit_glue : List ℕ → LentName → Bool
unfit_glue text name = not (is_absent name.mark) && (not (is_present name.mark) || unfit_name text name.part.start name.part.size)

-- a glue whose name retires
unfoldable pub is_retired_glue : Glue → Bool
is_retired_glue none = false
is_retired_glue (some name) = is_retired name

-- ---- lists of names

-- name i of rows of three numbers: a mark, a start, a length
abbrev pub name_at : List ℕ → ℕ → LentName
name_at rows i = record { mark = get_or rows (3 * i) 0; part = record { start = get_or rows (3 * i + 1) 0; size = get_or rows (3 * i + 2) 0 } }

-- names as they are read off rows, and whether the last row is not whole
pub record Names : Type 0 where
  pub ragged : Bool
  pub each : List LentName

-- the names that the rows hold
abbrev pub names_of : List ℕ → Names
names_of rows = record { ragged = not (eqb (length rows % 3) 0); each = tabulate (length rows / 3) (name_at rows) }

-- the glues of some names, in order
unfoldable pub glues_of : List ℕ → Names → List Glue
glues_of text names = map (glue_of text) names.each

-- n names are not as they should be
unfoldable pub unfit_names : ℕ → List ℕ → Names → Bool
unfit_names n text names = names.ragged || not (eqb (length names.each) n) || any (unfit_glue text) names.each
