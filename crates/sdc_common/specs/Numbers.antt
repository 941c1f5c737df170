-- Glue numbers: the base names in the order of their first appearance, two numbers for each.
use Rattle.std.specs.Prelude.{Bool, cond, List, [], ◌∷◌, ◌++◌, map, ℕ, ◌+◌, ◌*◌, ◌%◌, ltb, length, take}
use Rattle.std.proofs.Math.Option.{none, some}
use Rattle.lists.specs.Find.{any, first_index}
use Rattle.lists.specs.Fold.{foldl}
use Rattle.sdc_common.specs.Names.{Name, base_of, stars_of, same_name}
use Rattle.sdc_common.specs.Lent.{Glue}

-- some base is this one
abbrev pub is_known : List Name → Name → Bool
is_known bases base = any (same_name base) bases

-- the bases after one glue more: a new one comes last
unfoldable pub learn : List Name → Glue → List Name
learn bases none = bases
learn bases (some name) = cond (is_known bases (base_of name)) bases (bases ++ (base_of name ∷ []))

-- the base names of the strands' glues, in the order of their first appearance
unfoldable pub bases_of : List Glue → List Name
bases_of glues = foldl learn [] glues

-- with glue i there are more than so many base names
abbrev pub crowds : ℕ → List Glue → ℕ → Bool
crowds most glues i = ltb most (length (bases_of (take (i + 1) glues)))

-- document 01: "a new base takes the next two numbers from 1". The base has the odd one, base* the even one.
abbrev pub number_at : ℕ → ℕ → ℕ
number_at place stars = 1 + 2 * place + stars % 2

-- the number of a base with so many stars; 0 where the base is not known
unfoldable pub base_number : List Name → Name → ℕ → ℕ
base_number bases base stars = cond (is_known bases base) (number_at (first_index (same_name base) bases) stars) 0

-- the number of a name, reduced to its base or base*; 0 where it is not known
abbrev pub name_number : List Name → Name → ℕ
name_number bases name = base_number bases (base_of name) (stars_of name)

-- "an absent glue is 0"
unfoldable pub glue_number : List Name → Glue → ℕ
glue_number bases none = 0
glue_number bases (some name) = name_number bases name

-- the numbers of some glues among the base names of the strands'
unfoldable pub numbers_among : List Glue → List Glue → List ℕ
numbers_among strands glues = map (glue_number (bases_of strands)) glues
