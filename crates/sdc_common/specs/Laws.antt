-- What is shown of names, their bases and their numbers: that a number stands for one base and one parity, and what it is to be known as spelled.
use Rattle.std.specs.Prelude.{◌≡◌, false, ◌&&◌, List, [], ◌++◌, ◌%◌, ltb, replicate}
use Rattle.lists.specs.Find.{any}
use Rattle.lists.specs.Each.{Each}
use Rattle.lists.specs.Order.{Distinct}
use Rattle.sdc_common.specs.Names.{Name, base_of, stars_of, same_name}
use Rattle.sdc_common.specs.Lent.{Glue}
use Rattle.sdc_common.specs.Numbers.{is_known, bases_of, name_number, glue_number}
use Rattle.sdc_common.specs.Spelled.{known_names, is_unknown, spelled_number}

-- of every name
pub record NameRight (name : Name) : Type 0 where
  -- it is its base and its stars, each the byte 42
  pub parts : name ≡ base_of name ++ replicate (stars_of name) 42
  -- its base has no star at its end
  pub bare : stars_of (base_of name) ≡ 0

-- of the strands' glues, whatever they are
pub record NumbersRight (strands : List Glue) : Type 0 where
  -- no base stands twice among the base names
  pub distinct : Distinct [] (bases_of strands)
  -- and none has a star at its end
  pub bare : Each (λ base. stars_of base ≡ 0) (bases_of strands)
  -- two names with the same number, other than 0, have the same base, and both an even or both an odd number of stars
  pub apart :
      (x y : Name) → name_number (bases_of strands) x ≡ name_number (bases_of strands) y → (name_number (bases_of strands) x ≡ 0 → ⊥)
      → (base_of x ≡ base_of y) × (stars_of x % 2 ≡ stars_of y % 2)
  -- a name is known as spelled exactly if its base is known and it has fewer than two stars
  pub known : (name : Name) → any (same_name name) (known_names (bases_of strands)) ≡ (is_known (bases_of strands) (base_of name) && ltb (stars_of name) 2)
  -- and a scaffold's glue that is known as spelled has the number that a strand's has
  pub spelled : (glue : Glue) → is_unknown (bases_of strands) glue ≡ false → spelled_number (bases_of strands) glue ≡ glue_number (bases_of strands) glue
